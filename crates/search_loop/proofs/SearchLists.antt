-- Literals of prefixes, and lists of literals over a table.
use Rattle.std.proofs.Common.{◌≡◌, ℕ, ◌<◌, ◌≤◌, List, [], ◌∷◌, length, get_or, take, map, Contains, refl, sym, ap, ◌∙◌, subst, arith, suc}
use Rattle.std.specs.Prelude.{drop}
use Rattle.std.proofs.lemmas.List.{get_or-take, length-take-le, get_or_default}
use Rattle.std.proofs.lemmas.List.Elements.{All-contains}
use Rattle.spec_text.proofs.Members.{to_image, from_image}
use Rattle.spec_sorts.specs.Literals.{Clause, Literal, literals_of}
use Rattle.term_core.specs.declared.ids.Lit.{Lit}
use Rattle.term_core.specs.Tables.{TableView, IsIn, AreDifferent, Extends, literal_at}
use Rattle.term_core.proofs.TermsExtend.{IsIn-kept, literal_at-kept}
use Rattle.clause_literals.specs.Literals.{AreLiteralsIn, LiteralsMean}
use Rattle.clause_literals.proofs.TableLiterals.{literals_apart}
use Rattle.sat_trail.specs.Trails.{no_lit}
use Rattle.search_loop.specs.Search.{images, AreAllOf}

-- an earlier literal is in the prefix
pub in_front : (xs : List Lit) (k p : ℕ) (l : Lit) → k < p → k < length xs → p ≤ length xs → get_or xs k no_lit ≡ l → Contains (take p xs) l
in_front xs k p l lt within le e = (k, omega (arith, lt, length-take-le p xs le), get_or-take p xs k l lt ∙ sym (get_or_default xs k no_lit l within) ∙ e)

module _ (t : TableView) (differ : AreDifferent t.terms) where
  -- lists of one meaning are one
  images_one : (a b : List Lit) → AreLiteralsIn t a → AreLiteralsIn t b → map (literal_at t) a ≡ map (literal_at t) b → a ≡ b
  images_one [] [] there other e = refl
  images_one [] (m ∷ ms) there other e = absurd (omega (arith, ap length e))
  images_one (l ∷ ls) [] there other e = absurd (omega (arith, ap length e))
  images_one (l ∷ ls) (m ∷ ms) there other e =
      let first : l ≡ m = literals_apart t differ l m (there 0 l (omega arith)) (other 0 m (omega arith)) (ap (λ (xs : List Literal). get_or xs 0 (literal_at t l)) e) in
      let rest : ls ≡ ms = images_one ls ms (λ k d lt. there (suc k) d (omega (arith, lt))) (λ k d lt. other (suc k) d (omega (arith, lt))) (ap (drop 1) e) in
      λ i. first i ∷ rest i

  -- so are two that mean one clause
  pub means_one : (a b : List Lit) (c : Clause) → LiteralsMean t a c → LiteralsMean t b c → a ≡ b
  means_one a b c m n = images_one a b m.there n.there (m.same ∙ sym n.same)

-- the literals of a list that means a clause
module _ (t : TableView) (c : List Lit) (clause : Clause) (means : LiteralsMean t c clause) where
  -- are of the table
  pub in_table : (m : Lit) → Contains c m → IsIn t m.term
  in_table m i = All-contains (λ (k : Lit). IsIn t k.term) c m means.there i

  -- mean one of the clause
  pub meant : (m : Lit) → Contains c m → Contains (literals_of clause) (literal_at t m)
  meant m i = subst (λ (ls : List Literal). Contains ls (literal_at t m)) means.same (to_image (literal_at t) c m i)

  -- and no other does
  pub only_meant : AreDifferent t.terms → (m : Lit) → IsIn t m.term → Contains (literals_of clause) (literal_at t m) → Contains c m
  only_meant differ m there i =
      let j = from_image (literal_at t) c (literal_at t m) (subst (λ (ls : List Literal). Contains ls (literal_at t m)) (sym means.same) i) in
      subst (Contains c) (literals_apart t differ j.0 m (in_table j.0 j.1) there j.2) j.1

-- over a table that has all that another had
module _ (t u : TableView) (g : Extends t u) where
  pub of_kept : (c : List Lit) → AreLiteralsIn t c → AreLiteralsIn u c
  of_kept c h = λ k d lt. IsIn-kept t u g (get_or c k d).term (h k d lt)

  pub lits_kept : (c : List Lit) → AreLiteralsIn t c → map (literal_at u) c ≡ map (literal_at t) c
  lits_kept [] h = refl
  lits_kept (l ∷ ls) h =
      let first = literal_at-kept t u g l (h 0 l (omega arith)) in
      let rest = lits_kept ls (λ k d lt. h (suc k) d (omega (arith, lt))) in
      λ i. first i ∷ rest i

  pub images_kept : (cs : List (List Lit)) → AreAllOf t cs → images u cs ≡ images t cs
  images_kept [] h = refl
  images_kept (c ∷ cs) h =
      let first = lits_kept c (h 0 c (omega arith)) in
      let rest = images_kept cs (λ k d lt. h (suc k) d (omega (arith, lt))) in
      λ i. first i ∷ rest i
