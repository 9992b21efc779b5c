-- The clauses that say what the terms of a list mean are over its terms, where it has their arguments and the equalities of choices.
use Rattle.std.proofs.Common.{◌≡◌, Bool, true, false, cond, List, [], ◌∷◌, map, Contains, inl, inr, refl, sym, subst}
use Rattle.std.specs.Prelude.{flat_map}
use Rattle.std.proofs.lemmas.List.{append-nil}
use Rattle.std.proofs.lemmas.List.Elements.{Contains-append_right, Contains-append_cases}
use Rattle.spec_text.proofs.Members.{first, later, cases, none, only, from_image, in_flat}
use Rattle.spec_sorts.specs.Terms.{Truth, Ite, Equal, Term, app, nil, cons, of, pair, negated, same_sort, sort_of}
use Rattle.spec_sorts.specs.Subsets.{AreAmong, IsClosed}
use Rattle.spec_sorts.specs.Literals.{Clause, Literal, literal_of, literals_of}
use Rattle.spec_sorts.proofs.LeastSubterms.{least_of}
use Rattle.spec_derivations.specs.Problems.{Problem, terms_of_problem, subterms_in}
use Rattle.spec_derivations.specs.Base.{clauses_of, base_clauses, branch_equalities, choice_clauses, defining_clauses}
use Rattle.spec_derivations.proofs.Over.{base_over, bare_among}

module _ (us : List Term) (closed : IsClosed us) (equalities : (w u : Term) → Contains us w → Contains (branch_equalities w) u → Contains us u) where
  -- a check that asserts all of them: a clause of rules without premises that one gives, and one that is a term alone, are base clauses of it
  abbrev wide : Problem
  wide = record { asserted = us; assumed = []; interface = [] }

  same : terms_of_problem wide ≡ us
  same = append-nil us

  wide_among : AreAmong (subterms_in wide) us
  wide_among = (least_of (terms_of_problem wide)).least us (λ t i. subst (λ ts. Contains ts t) same i) closed

  among_wide : AreAmong us (subterms_in wide)
  among_wide t i = (least_of (terms_of_problem wide)).there t (subst (λ ts. Contains ts t) (sym same) i)

  -- its literals are over the terms
  wide_over : (c : Clause) (l : Literal) → Contains (base_clauses wide) c → Contains (literals_of c) l → Contains us l.atom
  wide_over c l i j = wide_among l.atom (base_over (λ ts. (least_of ts).there) (λ ts. (least_of ts).closed) wide c l i j)

  -- so are those of the clauses of a choice
  choice_over : (w : Term) (c : Clause) (u : Term) → Contains us w → Contains (choice_clauses w) c → Contains c u → Contains us (literal_of u).atom
  unfolding literal_of
  choice_over (app Ite (cons c (cons s (cons t nil)))) d u w_in i j = go (same_sort Truth (sort_of s)) refl i
    where
      w : Term
      w = of Ite (c ∷ s ∷ t ∷ [])

      condition : Contains us (literal_of c).atom
      condition = bare_among us closed c (closed w w_in c (first c (s ∷ t ∷ [])))

      branch : same_sort Truth (sort_of s) ≡ false → (v : Term) → Contains (pair Equal w s ∷ pair Equal w t ∷ []) v → Contains us v
      branch e v k = equalities w v w_in (subst (λ b. Contains (cond b [] (pair Equal w s ∷ pair Equal w t ∷ [])) v) (sym e) k)

      both : (x v : Term) → Contains us (literal_of x).atom → Contains us (literal_of v).atom → Contains (x ∷ v ∷ []) u → Contains us (literal_of u).atom
      both x v a b k = elim (cases x (v ∷ []) u k) [
        | inl e ↦ subst (λ y. Contains us (literal_of y).atom) e a
        | inr rest ↦ subst (λ y. Contains us (literal_of y).atom) (only v u rest) b
      ]

      go : (b : Bool) → same_sort Truth (sort_of s) ≡ b → Contains (cond b [] ((negated c ∷ pair Equal w s ∷ []) ∷ (c ∷ pair Equal w t ∷ []) ∷ [])) d → Contains us (literal_of u).atom
      go true e h = absurd (none d h)
      go false e h = elim (cases (negated c ∷ pair Equal w s ∷ []) ((c ∷ pair Equal w t ∷ []) ∷ []) d h) [
        | inl f ↦ both (negated c) (pair Equal w s) condition (branch e (pair Equal w s) (first (pair Equal w s) (pair Equal w t ∷ []))) (subst (λ x. Contains x u) (sym f) j)
        | inr k ↦ both c (pair Equal w t) condition (branch e (pair Equal w t) (later (pair Equal w s) (pair Equal w t ∷ []) (pair Equal w t) (first (pair Equal w t) [])))
            (subst (λ x. Contains x u) (sym (only (c ∷ pair Equal w t ∷ []) d k)) j)
      ]
  choice_over _ d u w_in i j = absurd (none d i)

  -- each literal of a clause that says what one of them means is over one of them
  pub defining_over : (w : Term) → Contains us w → (c : Clause) (l : Literal) → Contains (defining_clauses w) c → Contains (literals_of c) l → Contains us l.atom
  defining_over w w_in c l i j = elim (Contains-append_cases (clauses_of w) (choice_clauses w) c i) [
    | inl k ↦ wide_over c l (Contains-append_right (map (λ u. u ∷ []) us) (flat_map clauses_of (subterms_in wide)) c (in_flat clauses_of (subterms_in wide) w c (among_wide w w_in) k)) j
    | inr k ↦ let u = from_image literal_of c l j in subst (λ (x : Literal). Contains us x.atom) u.2 (choice_over w c u.0 w_in k u.1)
  ]
