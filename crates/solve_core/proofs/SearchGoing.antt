-- That a search that grew by the equalities of open pairs speaks of more, and pays for it.
use Rattle.std.specs.Prelude.{Result, Err}
use Rattle.std.proofs.Common.{◌≡◌, ◌+◌, ◌<◌, ◌≤◌, ℕ, true, List, [], ◌++◌, length, get_or, map, Contains, inl, inr, refl, sym, ap, ◌∙◌, subst, arith}
use Rattle.std.proofs.lemmas.List.{length-append, map-append}
use Rattle.std.proofs.lemmas.List.Elements.{filter-append, Contains-get_or, Contains-append_left, Contains-append_right, Contains-append_cases}
use Rattle.spec_text.proofs.Members.{to_image, in_filter}
use Rattle.spec_sorts.specs.Terms.{Number, Equal, Term, pair, sort_of, same_sort}
use Rattle.spec_sorts.specs.Subsets.{AreAmong}
use Rattle.spec_sorts.proofs.WellSorted.{same_sort_itself}
use Rattle.spec_simplex.specs.Constraints.{constraint_by}
use Rattle.spec_derivations.specs.Examples.{speaking}
use Rattle.spec_causes.specs.Counts.{is_arithmetic, arithmetic_in}
use Rattle.term_core.specs.declared.ids.TermId.{TermId}
use Rattle.term_core.specs.Tables.{TableView, Extends, AreIn, term_at, clause_at}
use Rattle.term_core.proofs.TermsExtend.{clause_at-kept}
use Rattle.term_clauses.specs.SpokenTerms.{no_id}
use Rattle.sat_budget.specs.declared.limits.Stop.{Stop}
use Rattle.sat_budget.specs.declared.limits.Stop.TheVariants as stops
use Rattle.sat_budget.specs.Budgets.{BudgetView}
use Rattle.proof_log.specs.Theories.{CameTo}
use Rattle.simplex.specs.Views.{SimplexView}
use Rattle.simplex.specs.Coming.{CameBy, StoppedBy}
use Rattle.search_loop.specs.declared.search.Search.{Search}
use Rattle.search_loop.specs.Asking.{state}
use Rattle.search_loop.specs.Paying.{counted_among, atoms_of, paid, paid_by, IsPaid}
use Rattle.search_loop.specs.Rounds.{IsSearch}
use Rattle.search_loop.proofs.SearchPays.{paid_grown}
use Rattle.solve_core.specs.Sharing.{IsOpen, AreOpen}
use Rattle.solve_core.specs.Unspoken.{equality_in, equalities_of, missing, unspoken_in}
use Rattle.solve_core.specs.GoingOn.{IsAskedFor, HasCome}
use Rattle.solve_core.proofs.Missing.{missing_less, pair_among}
use Rattle.solve_core.proofs.SearchAsked.{known_whole, number_of}

-- an equality of numbers says something of them
equality_arithmetic : (s u : Term) → sort_of s ≡ Number → sort_of u ≡ Number → is_arithmetic (pair Equal s u) ≡ true
unfolding constraint_by
equality_arithmetic s u left right =
    let one : same_sort (sort_of s) Number ≡ true = ap (λ n. same_sort n Number) left ∙ same_sort_itself Number in
    let other : same_sort (sort_of u) Number ≡ true = ap (λ n. same_sort n Number) right ∙ same_sort_itself Number in
    rw (one, other) refl

-- atoms of a list and of another
among_both : (t : TableView) (ids more : List TermId) → counted_among t (ids ++ more) ≡ counted_among t ids + counted_among t more
among_both t ids more =
    ap (λ us. length (arithmetic_in us)) (map-append (term_at t) ids more) ∙ ap length (filter-append is_arithmetic (clause_at t ids) (clause_at t more)) ∙ length-append (arithmetic_in (clause_at t ids)) (arithmetic_in (clause_at t more))

module _ (ts : List Term) (ids : List TermId) (t : TableView) (x : Search) (a : IsAskedFor ts ids (state t x)) (there : AreIn t x.terms.items) (w : TableView) (grows : Extends t w) (y : Search) (more : List TermId)
    (terms : y.terms.items ≡ x.terms.items ++ more) where
  all_terms : clause_at w y.terms.items ≡ clause_at t x.terms.items ++ clause_at w more
  all_terms = ap (clause_at w) terms ∙ map-append (term_at w) x.terms.items more ∙ ap (λ us. us ++ clause_at w more) (clause_at-kept t w grows x.terms.items there)

  -- the search speaks of what it did, and of what came
  pub old_among : AreAmong (clause_at t x.terms.items) (clause_at w y.terms.items)
  old_among u i = subst (λ us. Contains us u) (sym all_terms) (Contains-append_left (clause_at t x.terms.items) (clause_at w more) u i)

  pub new_among : AreAmong (clause_at w more) (clause_at w y.terms.items)
  new_among u i = subst (λ us. Contains us u) (sym all_terms) (Contains-append_right (clause_at t x.terms.items) (clause_at w more) u i)

  -- it has as many atoms more
  pub atoms_more : atoms_of w y ≡ atoms_of t x + counted_among w more
  atoms_more = ap (counted_among w) terms ∙ among_both w x.terms.items more ∙ ap (λ us. length (arithmetic_in us) + counted_among w more) (clause_at-kept t w grows x.terms.items there)

  -- by the equalities of pairs that were open
  module _ (pairs : List (TermId × TermId)) (opened : AreOpen t ids (speaking ts a.interface) pairs) (new : List Term) (are : new ≡ map (equality_in t) pairs) (s : IsSearch w (speaking ts (a.interface ++ new)) [] y) where
    abbrev one : TermId × TermId
    one = get_or pairs 0 (no_id, no_id)

    one_open : IsOpen t ids (speaking ts a.interface) one
    one_open = opened.0 0 (no_id, no_id) opened.1

    abbrev equality : Term
    equality = equality_in t one

    unknown : Contains (clause_at t x.terms.items) equality → ⊥
    unknown i = one_open.unspoken (a.asked.asked.listed.only equality i)

    came : Contains (clause_at w y.terms.items) equality
    came =
        let named = subst (λ us. Contains us equality) (sym are) (to_image (equality_in t) pairs one (Contains-get_or pairs 0 (no_id, no_id) opened.1)) in
        s.listed.each equality (known_whole w y (speaking ts (a.interface ++ new)) s equality (Contains-append_left (a.interface ++ new) (ts ++ []) equality (Contains-append_right a.interface new equality named)))

    -- of fewer equalities of shared terms it does not speak
    pub fewer_unspoken : unspoken_in ids (state w y) < unspoken_in ids (state t x)
    fewer_unspoken =
        let us = clause_at t ids in
        let same : clause_at w ids ≡ us = clause_at-kept t w grows ids a.asked.shared.there in
        let among = pair_among us (term_at t one.0) (term_at t one.1) (to_image (term_at t) ids one.0 one_open.one) (to_image (term_at t) ids one.1 one_open.other) in
        subst (λ ws. missing (equalities_of ws) (clause_at w y.terms.items) < missing (equalities_of us) (clause_at t x.terms.items)) (sym same)
        (missing_less (clause_at t x.terms.items) (clause_at w y.terms.items) old_among (equalities_of us) equality among unknown came)

    -- and one at least of its atoms is new
    pub one_atom : 1 ≤ counted_among w more
    one_atom =
        let number = number_of t x (speaking ts a.interface) a.asked.asked ids a.asked.shared in
        let counts = equality_arithmetic (term_at t one.0) (term_at t one.1) (number one.0 one_open.one) (number one.1 one_open.other) in
        elim (Contains-append_cases (clause_at t x.terms.items) (clause_at w more) equality (subst (λ us. Contains us equality) all_terms came)) [
          | inl old ↦ absurd (unknown old)
          | inr here ↦ let i = in_filter is_arithmetic (clause_at w more) equality here counts in omega (arith, i.1)
        ]

    -- it grew once more, no more often than it has atoms
    pub few_more : (r : ℕ) → r ≤ atoms_of t x → r + 1 ≤ atoms_of w y
    few_more r le = omega (arith, le, atoms_more, one_atom)

    -- what it pays for the atoms that came
    pub paid_more : (r n : ℕ) → y.budget ≡ x.budget → n ≤ paid_by t x r (atoms_of t x) → n + counted_among w more ≤ paid_by w y (r + 1) 0
    paid_more r n budget le =
        subst (λ (b : BudgetView). n + counted_among w more ≤ paid (atoms_of w y) (length b.learned) (r + 1) 0) (sym budget)
        (paid_grown (atoms_of t x) (atoms_of w y) (length x.budget.learned) r (counted_among w more) n le atoms_more one_atom)

    -- simplex came on by them
    pub come_more : (r : ℕ) → y.budget ≡ x.budget → (v z : SimplexView) → HasCome (state t x) v (paid_by t x r (atoms_of t x))
        → ((us : List Term) (n : ℕ) (es : List (ℕ × ℕ)) → AreAmong (clause_at w more) us → CameBy t us n es v → CameBy w us (n + counted_among w more) es z) → HasCome (state w y) z (paid_by w y (r + 1) 0)
    come_more r budget v z come watches us among =
        let n = come us (λ u i. among u (old_among u i)) in (
          n.0 + counted_among w more,
          paid_more r n.0 budget n.1,
          subst (λ (b : BudgetView). CameBy w us (n.0 + counted_among w more) b.exchanges z) (sym budget) (watches us n.0 x.budget.exchanges (λ u i. among u (new_among u i)) n.2),
        )

    -- or was stopped
    pub stopped_more : (r : ℕ) → y.budget ≡ x.budget → (v z : SimplexView) → HasCome (state t x) v (paid_by t x r (atoms_of t x)) → (P : ℕ → Unit {0} → Type 0) (stop : Stop) (us : List Term) → AreAmong (clause_at w y.terms.items) us
        → ((n : ℕ) → AreAmong (clause_at w more) us → CameBy t us n x.budget.exchanges v
        → CameTo (let result : Result (Unit {0}) Stop = Err stop in result) (P n) (IsPaid (λ k. StoppedBy w us k x.budget.exchanges z) (n + counted_among w more)))
        → CameTo (let result : Result (Unit {0}) Stop = Err stop in result) (λ _. Unit {0}) (IsPaid (λ k. StoppedBy w us k y.budget.exchanges z) (paid_by w y (r + 1) 0))
    stopped_more r budget v z come P (stops.Strained e) us among watches =
        let n = come us (λ u i. among u (old_among u i)) in
        let k = watches n.0 (λ u i. among u (new_among u i)) n.2 in (
          k.0,
          omega (arith, k.1, paid_more r n.0 budget n.1),
          subst (λ (b : BudgetView). StoppedBy w us k.0 b.exchanges z) (sym budget) k.2,
        )
    stopped_more r budget v z come P stops.Memory us among watches = tt
