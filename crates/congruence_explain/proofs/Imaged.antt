-- Chains of literals by number are chains of those that they mean.
use Rattle.std.proofs.Common.{inl, inr, List, ◌∷◌, map, All, Contains, sym, ap, ◌∙◌, subst}
use Rattle.std.proofs.lemmas.List.Elements.{All-contains}
use Rattle.spec_text.proofs.Members.{cases, none, to_image, from_image}
use Rattle.spec_sorts.specs.Literals.{Literal, complement}
use Rattle.spec_derivations.specs.ExactChains.{HasSame, IsExactBinary, AreGone, IsExactChain, begin, resolve, IsExactResolvent}
use Rattle.spec_derivations.proofs.Exact.{chain_literals}
use Rattle.term_core.specs.declared.ids.Lit.{Lit}
use Rattle.term_core.specs.Tables.{TableView, IsIn, AreDifferent, literal_at}
use Rattle.clause_literals.specs.Literals.{lit_complement, AreLiteralsIn}
use Rattle.clause_literals.proofs.TableLiterals.{literals_apart}

module _ (t : TableView) (differ : AreDifferent t.terms) (premises : List (List Lit)) (premises_in : All (AreLiteralsIn t) premises) where
  abbrev f : Lit → Literal
  f l = literal_at t l

  abbrev Given : List Literal → Type 0
  Given = Contains (map (map (literal_at t)) premises)

  given_in : (c : List Lit) → Contains premises c → (l : Lit) → Contains c l → IsIn t l.term
  given_in c c_in l i = All-contains (λ (m : Lit). IsIn t m.term) c l (All-contains (AreLiteralsIn t) premises c premises_in c_in) i

  -- all is of the table
  literals_in : (pivots clause : List Lit) → IsExactChain lit_complement (Contains premises) pivots clause → (l : Lit) → Contains clause l → IsIn t l.term
  literals_in pivots clause chain l i = let w = chain_literals lit_complement (Contains premises) pivots clause chain l i in given_in w.0 w.1 l w.2

  pivots_in : (pivots clause : List Lit) → IsExactChain lit_complement (Contains premises) pivots clause → (p : Lit) → Contains pivots p → IsIn t p.term
  pivots_in _ clause (begin c _ given same) p i = absurd (none p i)
  pivots_in _ clause (resolve pivot pivots so_far c _ chain given b gone) p i = elim (cases pivot pivots p i) [
    | inl e ↦ subst (λ (x : Lit). IsIn t x.term) e (literals_in pivots so_far chain pivot b.in_one)
    | inr old ↦ pivots_in pivots so_far chain p old
  ]

  same_images : (xs ys : List Lit) → HasSame xs ys → HasSame (map (literal_at t) xs) (map (literal_at t) ys)
  same_images xs ys same m = (
    λ i. let w = from_image (literal_at t) xs m i in subst (Contains (map (literal_at t) ys)) w.2 (to_image (literal_at t) ys w.0 ((same w.0).0 w.1)),
    λ i. let w = from_image (literal_at t) ys m i in subst (Contains (map (literal_at t) xs)) w.2 (to_image (literal_at t) xs w.0 ((same w.0).1 w.1)),
  )

  -- one resolution
  binary_image : (pivot : Lit) (one other third : List Lit) → ((l : Lit) → Contains one l → IsIn t l.term) → ((l : Lit) → Contains other l → IsIn t l.term) → IsExactBinary lit_complement pivot one other third
      → IsExactBinary complement (literal_at t pivot) (map (literal_at t) one) (map (literal_at t) other) (map (literal_at t) third)
  binary_image pivot one other third one_in other_in b = record {
    in_one = to_image (literal_at t) one pivot b.in_one;
    in_other = to_image (literal_at t) other (lit_complement pivot) b.in_other;
    rest = λ m. (
      λ i.
          let w = from_image (literal_at t) third m i in
          elim ((b.rest w.0).0 w.1) [
            | inl old ↦ inl (subst (Contains (map (literal_at t) one)) w.2 (to_image (literal_at t) one w.0 old.0), λ e. old.1 (literals_apart t differ w.0 pivot (one_in w.0 old.0) (one_in pivot b.in_one) (w.2 ∙ e)))
            | inr new ↦ inr (subst (Contains (map (literal_at t) other)) w.2 (to_image (literal_at t) other w.0 new.0), λ e. new.1 (literals_apart t differ w.0 (lit_complement pivot) (other_in w.0 new.0) (one_in pivot b.in_one) (w.2 ∙ e)))
          ],
      λ i. elim i [
        | inl old ↦ let w = from_image (literal_at t) one m old.0 in subst (Contains (map (literal_at t) third)) w.2 (to_image (literal_at t) third w.0 ((b.rest w.0).1 (inl (w.1, λ e. old.1 (sym w.2 ∙ ap (literal_at t) e)))))
        | inr new ↦ let w = from_image (literal_at t) other m new.0 in subst (Contains (map (literal_at t) third)) w.2 (to_image (literal_at t) third w.0 ((b.rest w.0).1 (inr (w.1, λ e. new.1 (sym w.2 ∙ ap (literal_at t) e)))))
      ],
    );
  }

  -- what is gone has no image left
  gone_image : (pivots clause : List Lit) → ((l : Lit) → Contains pivots l → IsIn t l.term) → ((l : Lit) → Contains clause l → IsIn t l.term) → AreGone lit_complement pivots clause → AreGone complement (map (literal_at t) pivots) (map (literal_at t) clause)
  gone_image pivots clause pivots_there clause_in gone m i =
      let w = from_image (literal_at t) pivots m i in
      let p_in = pivots_there w.0 w.1 in (
        λ j. let v = from_image (literal_at t) clause m j in (gone w.0 w.1).0 (subst (λ (x : Lit). Contains clause x) (literals_apart t differ v.0 w.0 (clause_in v.0 v.1) p_in (v.2 ∙ sym w.2)) v.1),
        λ j. let v = from_image (literal_at t) clause (complement m) j in (gone w.0 w.1).1 (subst (λ (x : Lit). Contains clause x) (literals_apart t differ v.0 (lit_complement w.0) (clause_in v.0 v.1) p_in (v.2 ∙ ap complement (sym w.2))) v.1),
      )

  -- the chain
  chain_image : (pivots clause : List Lit) → IsExactChain lit_complement (Contains premises) pivots clause → IsExactChain complement Given (map (literal_at t) pivots) (map (literal_at t) clause)
  chain_image _ clause (begin c _ given same) = begin (map (literal_at t) c) (map (literal_at t) clause) (to_image (map (literal_at t)) premises c given) (same_images c clause same)
  chain_image _ clause (resolve pivot pivots so_far c _ chain given b gone) =
      let whole : IsExactChain lit_complement (Contains premises) (pivot ∷ pivots) clause = resolve pivot pivots so_far c clause chain given b gone in
      resolve (literal_at t pivot) (map (literal_at t) pivots) (map (literal_at t) so_far) (map (literal_at t) c) (map (literal_at t) clause) (chain_image pivots so_far chain) (to_image (map (literal_at t)) premises c given)
      (binary_image pivot so_far c clause (literals_in pivots so_far chain) (given_in c given) b)
      (gone_image (pivot ∷ pivots) clause (pivots_in (pivot ∷ pivots) clause whole) (literals_in (pivot ∷ pivots) clause whole) gone)

  pub resolvent_image : (clause : List Lit) → IsExactResolvent lit_complement (Contains premises) clause → IsExactResolvent complement Given (map (literal_at t) clause)
  resolvent_image clause h = (map (literal_at t) h.0, chain_image h.0 clause h.1)
