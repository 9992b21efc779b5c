-- What shows that a search stops for another reason than a conflict.
use Rattle.std.specs.Prelude.{Result, Err}
use Rattle.std.proofs.Common.{◌≡◌, ◌+◌, ◌≤◌, ℕ, zero, suc, length, List, [], ◌∷◌, ◌++◌, take, All, Contains, inl, inr, subst, arith}
use Rattle.std.proofs.lemmas.List.Elements.{Contains-append_left, Contains-append_right, Contains-append_cases}
use Rattle.spec_text.proofs.Members.{first, later, cases, none, to_image, from_image}
use Rattle.spec_sorts.specs.Terms.{Term}
use Rattle.spec_sorts.specs.Subsets.{AreAmong}
use Rattle.spec_sorts.specs.Literals.{Literal}
use Rattle.spec_derivations.specs.Problems.{Problem}
use Rattle.spec_derivations.specs.Orders.{whole_terms}
use Rattle.spec_derivations.specs.Examples.{speaking}
use Rattle.spec_interfaces.specs.Interfaces.{AreInterfaceEqualities, StandsApart}
use Rattle.spec_causes.proofs.Wider.{overflows_over_more}
use Rattle.ratio128.specs.Meant.{overflow}
use Rattle.term_core.specs.declared.ids.TermId.{TermId}
use Rattle.term_core.specs.Tables.{TableView, AreDifferent, term_at, clause_at}
use Rattle.sat_budget.specs.declared.limits.Strain.{Strain}
use Rattle.sat_budget.specs.declared.limits.Stop.{Stop}
use Rattle.sat_budget.specs.declared.limits.Stop.TheVariants as stops
use Rattle.sat_budget.specs.declared.limits.Reason.TheVariants as reasons
use Rattle.sat_budget.specs.Budgets.{StopsBy}
use Rattle.proof_log.specs.Logs.{derivation_in, IsLogOf}
use Rattle.proof_log.specs.Theories.{TheoryView, CameTo}
use Rattle.simplex.specs.Views.{SimplexView}
use Rattle.simplex.specs.Coming.{term_tableau_of, StoppedBy, IsOverflowAt}
use Rattle.search_loop.specs.declared.search.Search.{Search}
use Rattle.search_loop.specs.declared.cdcl.Answer.{Answer}
use Rattle.search_loop.specs.declared.cdcl.Answer.TheVariants.{Unknown}
use Rattle.search_loop.specs.Stops.{IsOverflowed, reckoning}
use Rattle.search_loop.specs.Search.{SearchFits, images}
use Rattle.search_loop.specs.Paying.{atoms_of, IsPaid}
use Rattle.search_loop.specs.Rounds.{HasDerived, IsSearch, HoldsApart, HasMade, ShowsAnswer}
use Rattle.search_loop.specs.Asking.{HasSaturated, state}
use Rattle.search_loop.proofs.SearchShows.{derived_shows}
use Rattle.solve_core.specs.Answering.{IsAnswered, IsStoppedBy}
use Rattle.solve_core.proofs.SearchRuns.{few_paid, most_paid}

-- what is in the prefix of a list is in it
take_among : (m : ℕ) (ids : List TermId) (id : TermId) → Contains (take m ids) id → Contains ids id
take_among zero ids id c = absurd (none id c)
take_among (suc m) [] id c = absurd (none id c)
take_among (suc m) (n ∷ ns) id c = elim (cases n (take m ns) id c) [ inl e ↦ subst (Contains (n ∷ ns)) e (first n ns) | inr r ↦ later n ns id (take_among m ns id r) ]

-- what is watched, and the first of what came, are among the terms
pub front_among : (t : TableView) (ids more watched : List TermId) (k : ℕ) → watched ≡ ids → AreAmong (clause_at t (watched ++ take k more)) (clause_at t (ids ++ more))
front_among t ids more watched k is u i =
    let n = from_image (term_at t) (watched ++ take k more) u i in
    let there : Contains (ids ++ more) n.0 = elim (Contains-append_cases watched (take k more) n.0 n.1) [
      | inl old ↦ Contains-append_left ids more n.0 (subst (λ (is : List TermId). Contains is n.0) is old)
      | inr new ↦ Contains-append_right ids more n.0 (take_among k more n.0 new)
    ] in
    subst (Contains (clause_at t (ids ++ more))) n.2 (to_image (term_at t) (ids ++ more) n.0 there)

-- an answer is shown of terms that are asserted, with interface equalities of which the search was asked
pub answered_by : (ts : List Term) (limit : ℕ) (t w : TableView) (x y : Search) (interface : List Term) → IsSearch t (speaking ts interface) [] x → HoldsApart t (speaking ts interface) [] x
    → IsLogOf w y.log → y.budget.limit ≡ limit → (a : Answer) → ShowsAnswer t w x y a → HasMade (speaking ts interface) y.budget a → IsAnswered ts limit (state w y) a
answered_by ts limit t w x y interface s apart right limit_is a shows made =
    let shown = shows (speaking ts interface) [] s apart in
    record {
      right = right;
      limit_is = limit_is;
      interface = interface;
      equalities = apart.equalities;
      evidence = shown.0;
      learning = shown.1;
      exchanged = made;
    }

-- such an overflow is shown of the terms
pub strained_by : (ts : List Term) (limit : ℕ) (t : TableView) (x : Search) (interface : List Term) → AreInterfaceEqualities (speaking ts interface) → (cs : List (List Literal))
    → HasDerived (speaking ts interface) (derivation_in t x.log) cs [] (images t x.budget.learned) → All (StandsApart (speaking ts interface)) (images t x.budget.learned) → IsLogOf t x.log → x.budget.limit ≡ limit → (stop : Stop)
    → StopsBy (IsOverflowed (speaking ts interface) (length x.budget.learned) x.budget.exchanges) stop → IsStoppedBy ts limit (state t x) stop
strained_by ts limit t x interface equalities cs derived apart right limit_is (stops.Strained e) h = record {
  right = right;
  limit_is = limit_is;
  interface = interface;
  equalities = equalities;
  evidence = h;
  learning = derived_shows t (speaking ts interface) x.log cs [] x.budget.learned (Unknown (reasons.Overflow e)) right derived apart derived.steps;
  exchanged = tt;
}
strained_by ts limit t x interface equalities cs derived apart right limit_is stops.Memory h = tt

-- the limit is another's
pub stopped_limit : (ts : List Term) (limit other : ℕ) (w : TableView) (y : Search) → limit ≡ other → (stop : Stop) → IsStoppedBy ts limit (state w y) stop → IsStoppedBy ts other (state w y) stop
stopped_limit ts limit other w y is stop h = subst (λ (n : ℕ). IsStoppedBy ts n (state w y) stop) is h

module _ (t : TableView) (differ : AreDifferent t.terms) (x : Search) (ready : SearchFits t x) (problem : Problem) (spoken : AreAmong (clause_at t x.terms.items) (whole_terms problem)) (r : ℕ) (grew : r ≤ atoms_of t x) where
  -- an operation of simplex over some of the terms leaves the bound
  overflowed_over : (w : TableView) (v : SimplexView) (l : ℕ) (es : List (ℕ × ℕ)) (us : List Term) → AreAmong us (whole_terms problem)
      → IsPaid (λ n. StoppedBy w (whole_terms problem) n es v) (most_paid t differ x ready (whole_terms problem) spoken r grew l) → (e : Strain) → IsOverflowAt w us e v → IsOverflowed problem l es e
  overflowed_over w v l es us among (n, le, at) e h =
      reckoning (term_tableau_of w v) at.runs at.stopped (few_paid t differ x ready (whole_terms problem) spoken r grew l at.runs (omega (arith, at.few, le)))
      (overflows_over_more us (whole_terms problem) among (term_tableau_of w v) (overflow e.wide) h.0) h.1

  -- so a stop by one is shown
  pub stop_shown : {A : Type 0} (P : A → Type 0) (w : TableView) (v : SimplexView) (l m : ℕ) (es : List (ℕ × ℕ)) (us : List Term) → AreAmong us (whole_terms problem) → m ≤ most_paid t differ x ready (whole_terms problem) spoken r grew l → (stop : Stop)
      → CameTo (let result : Result A Stop = Err stop in result) P (IsPaid (λ n. StoppedBy w (whole_terms problem) n es v) m) → StopsBy (λ e. IsOverflowAt w us e v) stop → StopsBy (IsOverflowed problem l es) stop
  stop_shown P w v l m es us among le (stops.Strained e) (n, few, at) h = overflowed_over w v l es us among (n, omega (arith, few, le), at) e h
  stop_shown P w v l m es us among le stops.Memory came h = tt

-- a search saturated with more is saturated with less
pub saturated_with : {A B : Type 0} (t : TableView) (x : Search) (v : TheoryView) → (A → B) → HasSaturated t x v A → HasSaturated t x v B
saturated_with t x v f h = record { ready = h.ready; held = h.held; asked = h.asked; assigned = h.assigned; satisfied = h.satisfied; agrees = f h.agrees }
