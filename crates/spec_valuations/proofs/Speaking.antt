-- What holds of the terms of a check, of the interface equalities, of the facts and of the equalities of choices holds of all terms that a search speaks of.
use Rattle.std.proofs.Common.{◌≡◌, Bool, true, false, not, cond, List, [], ◌∷◌, ◌++◌, inl, inr, get_or, All, Contains, refl, sym, subst}
use Rattle.std.specs.Prelude.{flat_map}
use Rattle.std.proofs.lemmas.List.Elements.{All-contains, Contains-append_cases, Contains-get_or}
use Rattle.spec_text.proofs.Members.{none, each_of, from_flat}
use Rattle.spec_sorts.specs.Terms.{Truth, Number, Symbol, Equal, Ite, Term, app, nil, cons, sort_of, same_sort, negated, pair}
use Rattle.spec_sorts.specs.WellSorted.{IsWellSorted}
use Rattle.spec_sorts.specs.Subsets.{arguments_of}
use Rattle.spec_sorts.proofs.WellSorted.{choice_takes}
use Rattle.spec_equality.specs.Congruence.{truth_term}
use Rattle.spec_derivations.specs.Problems.{Problem, known_terms, known_subterms}
use Rattle.spec_derivations.specs.Base.{truth_facts, branch_equalities, spoken_terms, search_terms}
use Rattle.spec_derivations.specs.Orders.{order_fact, order_facts, ordered_terms, whole_terms}
use Rattle.spec_derivations.proofs.Below.{subterms_have, head_fits}
use Rattle.spec_derivations.proofs.OrderedTerms.{order_of}

-- a choice
abbrev pub choice : Term → Term → Term → Term
choice c a b = app Ite (cons c (cons a (cons b nil)))

-- the negation of a truth value is the other one
abbrev pub truth_fact : Bool → Term
truth_fact b = pair Equal (negated (truth_term b)) (truth_term (not b))

-- what two terms have each of them has
pub both_have : (P : Term → Type 0) (t u : Term) → P t → P u → (x : Term) → Contains (t ∷ u ∷ []) x → P x
both_have P t u one two = each_of P t (u ∷ []) one (each_of P u [] two (λ y h. absurd (none y h)))

-- what both equalities of each choice have each equality has
pub all_branches : (P : Term → Type 0) (t : Term) → ((c a b : Term) → t ≡ choice c a b → P (pair Equal (choice c a b) a) × P (pair Equal (choice c a b) b)) → (u : Term) → Contains (branch_equalities t) u → P u
all_branches P (app Ite (cons c (cons a (cons b nil)))) each u u_in = go (same_sort Truth (sort_of a)) u_in
  where
    both : P (pair Equal (choice c a b) a) × P (pair Equal (choice c a b) b)
    both = each c a b refl

    go : (x : Bool) → Contains (cond x [] (pair Equal (choice c a b) a ∷ pair Equal (choice c a b) b ∷ [])) u → P u
    go true h = absurd (none u h)
    go false h = both_have P (pair Equal (choice c a b) a) (pair Equal (choice c a b) b) both.0 both.1 u h
all_branches P t each u u_in = absurd (none u u_in)

module _ (P : Term → Type 0) (p : Problem) where
  -- what the terms of the check and the interface equalities, the facts, and the equalities of choices have
  pub record EachHas : Type 0 where
    -- arguments have what a term has
    pub down : (t : Term) → P t → (u : Term) → Contains (arguments_of t) u → P u
    -- the terms of the check, and the interface equalities
    pub terms : All P (known_terms p)
    -- the facts
    pub facts : (u : Term) → Contains truth_facts u → P u
    -- the equalities
    pub branches : (t : Term) → Contains (known_subterms p) t → P t → (u : Term) → Contains (branch_equalities t) u → P u

  module _ (each : EachHas) where
    pub known_have : (t : Term) → Contains (known_subterms p) t → P t
    known_have = subterms_have P each.down (known_terms p) each.terms

    spoken_have : (t : Term) → Contains (spoken_terms p) t → P t
    spoken_have t t_in = elim (Contains-append_cases (known_terms p) (truth_facts ++ flat_map branch_equalities (known_subterms p)) t t_in) [
      | inl own ↦ All-contains P (known_terms p) t each.terms own
      | inr other ↦ elim (Contains-append_cases truth_facts (flat_map branch_equalities (known_subterms p)) t other) [
        | inl fact ↦ each.facts t fact
        | inr branch ↦ let x = from_flat branch_equalities (known_subterms p) t branch in each.branches x.0 x.1 (known_have x.0 x.1) t x.2
      ]
    ]

    -- the terms that the search speaks of have it
    pub search_have : (t : Term) → Contains (search_terms p) t → P t
    search_have = subterms_have P each.down (spoken_terms p) (λ k d lt. spoken_have (get_or (spoken_terms p) k d) (Contains-get_or (spoken_terms p) k d lt))

    -- and so have those that a search over linear arithmetic speaks of, where order facts have what their equality has
    pub whole_have : ((s t : Term) → sort_of s ≡ Number → P (pair Equal s t) → P (order_fact s t)) → (t : Term) → Contains (whole_terms p) t → P t
    whole_have orders = subterms_have P each.down (ordered_terms p) (λ k d lt. each_ordered (get_or (ordered_terms p) k d) (Contains-get_or (ordered_terms p) k d lt))
      where
        each_ordered : (t : Term) → Contains (ordered_terms p) t → P t
        each_ordered t t_in = elim (Contains-append_cases (spoken_terms p) (flat_map order_facts (search_terms p)) t t_in) [
          | inl spoken ↦ spoken_have t spoken
          | inr fact ↦
              let w = from_flat order_facts (search_terms p) t fact in
              let o = order_of w.0 t w.2 in
              subst P (sym o.1) (orders o.0.s o.0.t o.0.number (subst P o.0.equality (search_have w.0 w.1)))
        ]

-- the branches of a choice have its sort
pub choice_sorts : (symbols : List Symbol) (c a b : Term) → IsWellSorted symbols [] (choice c a b) → (sort_of c ≡ Truth) × (sort_of a ≡ sort_of b)
choice_sorts symbols c a b w = choice_takes (sort_of c) (sort_of a) (sort_of b) (head_fits symbols [] Ite (cons c (cons a (cons b nil))) w)
