-- That a search that rested goes on with equalities of the pairs that were open, and what shows that it stops there.
use Rattle.std.specs.Prelude.{Result, Err, Vec}
use Rattle.std.specs.List.{AllPairs}
use Rattle.std.specs.declared.alloc.Global.{Global}
use Rattle.std.proofs.Common.{◌≡◌, ◌≢◌, ◌+◌, ◌-◌, ◌≤◌, ℕ, length, List, [], ◌∷◌, ◌++◌, take, drop, get_or, map, All, inl, refl, sym, ap, ◌∙◌, subst, arith}
use Rattle.std.proofs.lemmas.List.{take_all, length-append}
use Rattle.std.proofs.lemmas.List.Elements.{All-append, All-weaker}
use Rattle.spec_sorts.specs.Terms.{Term}
use Rattle.spec_sorts.specs.Subsets.{AreAmong}
use Rattle.spec_derivations.specs.Problems.{Problem, subterms_in}
use Rattle.spec_derivations.specs.Orders.{whole_terms}
use Rattle.spec_derivations.specs.Examples.{speaking}
use Rattle.spec_derivations.proofs.Grown.{whole}
use Rattle.spec_causes.specs.Shared.{IsSharedEquality}
use Rattle.spec_interfaces.specs.Interfaces.{IsInterfaceEquality, AreInterfaceEqualities, StandsApart}
use Rattle.spec_interfaces.proofs.Apart.{apart_more}
use Rattle.spec_causes.specs.Checks.{IsOverflowAmong}
use Rattle.ratio128.specs.declared.wide.Wide.{Wide}
use Rattle.ratio128.specs.Meant.{overflow}
use Rattle.term_core.specs.declared.ids.TermId.{TermId}
use Rattle.term_core.proofs.TermsExtend.{Extends-trans}
use Rattle.term_clauses.specs.Stating.{Widens}
use Rattle.sat_trail.specs.Trails.{TrailView, HasSame}
use Rattle.term_core.specs.Tables.{TableView, AreDifferent, Extends, AreIn, clause_at}
use Rattle.sat_budget.specs.declared.limits.Stop.{Stop}
use Rattle.sat_budget.specs.declared.limits.Stop.TheVariants as stops
use Rattle.sat_budget.specs.Budgets.{BudgetView, StopsBy}
use Rattle.proof_log.specs.Logs.{IsLogOf, derivation_in}
use Rattle.proof_log.specs.Theories.{TheoryView, CameTo}
use Rattle.congruence_relation.specs.Relation.{AreFactsOf}
use Rattle.congruence.specs.Views.{theory_of}
use Rattle.simplex_check.specs.Assignments.{IsBasisOf}
use Rattle.simplex.specs.Views.{SimplexView}
use Rattle.simplex.specs.Checks.{Suits}
use Rattle.simplex.specs.Coming.{term_tableau_of, CameBy, StoppedBy, IsOverflowAt}
use Rattle.combined.specs.Views.{CombinedView}
use Rattle.search_loop.specs.Answered.{AreAnswered}
use Rattle.search_loop.specs.declared.search.Search.{Search}
use Rattle.search_loop.specs.Stops.{HasExchanged, IsOverflowed, growing}
use Rattle.search_loop.specs.Search.{SearchFits, images}
use Rattle.search_loop.specs.Asking.{IsAsked, state}
use Rattle.search_loop.specs.Paying.{counted_among, atoms_of, paid_by, IsPaid}
use Rattle.search_loop.specs.Growing.{GrowsTo, HasGrown, goes_on as by_interface}
use Rattle.search_loop.specs.Rounds.{IsSearch, HoldsApart, Continues}
use Rattle.search_loop.proofs.SearchGrown.{continues_wider}
use Rattle.search_loop.proofs.SearchMore.{derived_of_more}
use Rattle.search_loop.proofs.SearchPays.{paid_begun}
use Rattle.solve_core.specs.Relating.{HasRelated}
use Rattle.solve_core.specs.Unspoken.{IsComparable, equality_in}
use Rattle.solve_core.specs.Answering.{IsStoppedBy}
use Rattle.solve_core.specs.GoingOn.{HasRested, GoesOn}
use Rattle.solve_core.proofs.SearchAsked.{open_comparable, open_equalities, open_linear, known_more, asked_for_more}
use Rattle.solve_core.proofs.SearchGoing.{fewer_unspoken, few_more, come_more, stopped_more}
use Rattle.solve_core.proofs.SearchRuns.{few_paid, runs_within}
use Rattle.solve_core.proofs.SearchWatching.{asked_more, once_watched}
use Rattle.solve_core.proofs.SearchStops.{front_among, strained_by, stop_shown}

-- what is behind a list
drop_front : {A : Type 0} (xs ys : List A) → drop (length xs) (xs ++ ys) ≡ ys
drop_front [] ys = refl
drop_front (x ∷ xs) ys = drop_front xs ys

pub behind : (xs ys zs : List TermId) (n : ℕ) → n ≡ length xs → zs ≡ xs ++ ys → take (length zs - n) (drop n zs) ≡ ys
behind xs ys zs n count is =
    let back : drop n zs ≡ ys = (λ i. drop (count i) (is i)) ∙ drop_front xs ys in
    let many : length zs - n ≡ length ys = omega (arith, count, ap length is, length-append xs ys) in
    (λ i. take (many i) (back i)) ∙ take_all (length ys) ys (omega arith)

-- a search that rested, by its problem
module _ (ts : List Term) (ids : List TermId) (t : TableView) (x : Search) (v : CombinedView) (pairs : List (TermId × TermId)) (h : HasRested ts ids (state t x) v pairs) where
  abbrev pub interface : List Term
  interface = h.searching.terms.interface

  abbrev pub before : Problem
  before = speaking ts interface

  pub asked : IsSearch t before [] x
  asked = h.searching.terms.asked.asked

  pub facts : HoldsApart t before [] x
  facts = h.searching.terms.asked.apart

  pub comparable : All (IsComparable t) pairs
  comparable k d lt = open_comparable t x before asked ids h.searching.terms.asked.shared (get_or pairs k d) (h.are_open.0 k d lt)

  -- and the equalities of those pairs
  module _ (new : List Term) (are : new ≡ map (equality_in t) pairs) where
    abbrev pub after : Problem
    after = speaking ts (interface ++ new)

    -- the search answers for them
    pub linear : AreAnswered new
    linear = subst AreAnswered (sym are) (open_linear t x before asked ids h.searching.terms.asked.shared pairs h.are_open)

    pub shared : All (IsSharedEquality (subterms_in before)) new
    shared = subst (All (IsSharedEquality (subterms_in before))) (sym are) (open_equalities t x before asked ids h.searching.terms.asked.shared pairs h.are_open)

    all_equalities : AreInterfaceEqualities after
    all_equalities = All-append (IsInterfaceEquality (subterms_in before)) interface new facts.equalities
        (All-weaker (IsSharedEquality (subterms_in before)) (IsInterfaceEquality (subterms_in before)) (λ e s. inl s) new shared)

    spoken : AreAmong (clause_at t x.terms.items) (whole_terms after)
    spoken u i = whole before after (known_more ts interface new) u (asked.listed.only u i)

    -- it stops where an order of an equality leaves the bound
    module _ (differ : AreDifferent t.terms) (u : TableView) (y : Search) (on : IsSearch u before [] y) (on_facts : HoldsApart u before [] y) (right : IsLogOf u y.log) (budget : y.budget ≡ x.budget) (limit : ℕ) (limit_is : y.budget.limit ≡ limit)
        (z : SimplexView) (came : (us : List Term) (n : ℕ) → CameBy t us n x.budget.exchanges v.simplex → CameBy t us n x.budget.exchanges z) where
      paid : IsPaid (λ n. CameBy t (whole_terms after) n x.budget.exchanges z) (1 + paid_by t x h.searching.grown (atoms_of t x))
      paid = let p = h.searching.paid (whole_terms after) spoken in (p.0, omega (arith, p.1), came (whole_terms after) p.0 p.2)

      overflowed : (w : Wide) → IsOverflowAmong (whole_terms after) (overflow w) → (stop : Stop) → StopsBy (λ s. (s.wide ≡ w) × IsBasisOf z.assignment s.basis) stop → StopsBy (IsOverflowed after (length x.budget.learned) x.budget.exchanges) stop
      overflowed w order (stops.Strained e) by =
          let us = whole_terms after in
          let l = length x.budget.learned in
          let made : HasExchanged us l x.budget.exchanges = record {
            tableau = term_tableau_of t z;
            runs = paid.2.runs;
            reached = paid.2.reached;
            few = few_paid t differ x h.searching.ready us spoken h.searching.grown h.searching.few l paid.2.runs
                (runs_within t us paid.0 (1 + paid_by t x h.searching.grown (atoms_of t x)) x.budget.exchanges z paid.1 paid.2);
          } in
          growing made (subst (IsOverflowAmong us) (sym (ap overflow by.0)) order) by.1
      overflowed w order stops.Memory by = tt

      pub order_stops : (w : Wide) → IsOverflowAmong (whole_terms after) (overflow w) → (stop : Stop) → StopsBy (λ s. (s.wide ≡ w) × IsBasisOf z.assignment s.basis) stop → IsStoppedBy ts limit (state u y) stop
      order_stops w order stop by =
          strained_by ts limit u y (interface ++ new) all_equalities (images u y.store.clauses)
          (derived_of_more before after refl refl (known_more ts interface new) (derivation_in u y.log) (images u y.store.clauses) [] (images u y.budget.learned) on.derived)
          (All-weaker (StandsApart before) (StandsApart after) (apart_more before new) (images u y.budget.learned) on_facts.apart) right limit_is stop
          (subst (λ (b : BudgetView). StopsBy (IsOverflowed after (length b.learned) b.exchanges) stop) (sym budget) (overflowed w order stop by))

    -- where it grew
    module _ (u : TableView) (grows : Extends t u) (y : Search) (more : List TermId) (terms : y.terms.items ≡ x.terms.items ++ more) (on : IsSearch u after [] y) (on_facts : HoldsApart u after [] y) (budget : y.budget ≡ x.budget) (ready : SearchFits u y) where
      there : AreIn t x.terms.items
      there = λ k d lt. (h.searching.ready.atoms_are.there k d lt).0

      abbrev grown : ℕ
      grown = h.searching.grown + 1

      few : grown ≤ atoms_of u y
      few = few_more ts ids t x h.searching.terms there u grows y more terms pairs h.are_open new are on h.searching.grown h.searching.few

      -- it goes on
      pub goes_on : (z : CombinedView) → IsAsked (theory_of z.congruence) y → AreFactsOf u z.congruence.now.facts → Suits z.simplex u
          → ((us : List Term) (n : ℕ) (es : List (ℕ × ℕ)) → AreAmong (clause_at u more) us → CameBy t us n es v.simplex → CameBy u us (n + counted_among u more) es z.simplex) → GoesOn ts ids (state t x) (state u y) z
      goes_on z keeps facts suits watches = record {
        ready = record {
          ready = ready;
          asked = keeps;
          congruence = facts;
          simplex = suits;
          terms = asked_for_more ts ids t u x y grows h.searching.terms new on on_facts;
          grown = grown;
          few = few;
          paid = come_more ts ids t x h.searching.terms there u grows y more terms pairs h.are_open new are on h.searching.grown budget v.simplex z.simplex h.searching.paid watches;
        };
        fewer = fewer_unspoken ts ids t x h.searching.terms there u grows y more terms pairs h.are_open new are on;
      }

      -- or simplex stops at a term that it comes to watch
      pub watching_stops : AreDifferent u.terms → (z : SimplexView) (limit : ℕ) → y.budget.limit ≡ limit → (watched : List TermId) → watched ≡ x.terms.items → (k : ℕ) (P : ℕ → Unit {0} → Type 0) (stop : Stop)
          → ((n : ℕ) → AreAmong (clause_at u more) (whole_terms after) → CameBy t (whole_terms after) n x.budget.exchanges v.simplex
          → CameTo (let result : Result (Unit {0}) Stop = Err stop in result) (P n) (IsPaid (λ m. StoppedBy u (whole_terms after) m x.budget.exchanges z) (n + counted_among u more)))
          → StopsBy (λ e. IsOverflowAt u (clause_at u (watched ++ take k more)) e z) stop → IsStoppedBy ts limit (state u y) stop
      watching_stops differ z limit limit_is watched is k P stop watches at =
          let us = whole_terms after in
          let l = length y.budget.learned in
          let front : AreAmong (clause_at u (watched ++ take k more)) us = λ w i.
          on.listed.only w (subst (λ (ns : List TermId). AreAmong (clause_at u (watched ++ take k more)) (clause_at u ns)) (sym terms) (front_among u x.terms.items more watched k is) w i) in
          strained_by ts limit u y (interface ++ new) all_equalities (images u y.store.clauses) on.derived on_facts.apart ready.right limit_is stop
          (stop_shown u differ y ready after on.listed.only grown few (λ (e : Unit {0}). Unit {0}) u z l (paid_by u y grown 0) y.budget.exchanges (clause_at u (watched ++ take k more)) front
          (let le : paid_by u y grown 0 ≤ paid_by u y grown (atoms_of u y) = paid_begun (atoms_of u y) l grown (atoms_of u y) (paid_by u y grown 0) (omega arith) in omega (arith, le)) stop
          (stopped_more ts ids t x h.searching.terms there u grows y more terms pairs h.are_open new are on h.searching.grown budget v.simplex z h.searching.paid P stop us on.listed.only watches) at)

-- equalities came into the table, the search went back to level 0, it grew by them, and bounds were related
module _ (ts : List Term) (ids : List TermId) (t : TableView) (x : Search) (v : CombinedView) (pairs : List (TermId × TermId)) (h : HasRested ts ids (state t x) v pairs) (u : TableView) (wider : Widens t u) (right : IsLogOf u x.log) (same : derivation_in u x.log ≡ derivation_in t x.log)
    (at : Search) (back : Continues u u x at) (unspent : at.budget ≡ x.budget) (new : List TermId) (are : clause_at u new ≡ map (equality_in t) pairs) where
  on_wider : Continues t u x x
  on_wider = continues_wider t u wider.terms wider.declared x right same h.searching.ready

  pub resting : IsSearch u (before ts ids t x v pairs h) [] at
  resting = back.search (before ts ids t x v pairs h) [] (on_wider.search (before ts ids t x v pairs h) [] (asked ts ids t x v pairs h))

  pub resting_facts : HoldsApart u (before ts ids t x v pairs h) [] at
  resting_facts =
      let p = before ts ids t x v pairs h in
      let own = asked ts ids t x v pairs h in
      back.apart p [] (on_wider.search p [] own) (on_wider.apart p [] own (facts ts ids t x v pairs h))

  -- it grows to the problem with these equalities
  pub grows_to : GrowsTo u at [] new [] (after ts ids t x v pairs h (clause_at u new) are)
  grows_to = by_interface (before ts ids t x v pairs h) resting refl refl

  module _ (w : TableView) (z : Search) (grown_by : HasGrown (state u at) (state w z) [] new) (r : TableView) (y : Search) (related : HasRelated w r z y) where
    pub grown_table : Extends t r
    grown_table = Extends-trans t u r wider.terms (Extends-trans u w r grown_by.table related.continues.table)

    pub grown_search : IsSearch r (after ts ids t x v pairs h (clause_at u new) are) [] y
    grown_search = related.continues.search (after ts ids t x v pairs h (clause_at u new) are) [] (grown_by.search (after ts ids t x v pairs h (clause_at u new) are) [] grows_to)

    pub grown_facts : HoldsApart r (after ts ids t x v pairs h (clause_at u new) are) [] y
    grown_facts =
        let p = after ts ids t x v pairs h (clause_at u new) are in
        related.continues.apart p [] (grown_by.search p [] grows_to) (grown_by.apart (before ts ids t x v pairs h) [] resting resting_facts refl (shared ts ids t x v pairs h (clause_at u new) are))

    pub grown_budget : y.budget ≡ x.budget
    grown_budget = ap (λ (s : Search). s.budget) related.same ∙ grown_by.budget ∙ unspent

    pub terms_more : y.terms.items ≡ at.terms.items ++ grown_by.more
    terms_more = ap (λ (s : Search). s.terms.items) related.same ∙ grown_by.terms

    -- the terms that came are behind those that it had
    module _ (terms : List TermId) (terms_are : terms ≡ y.terms.items) (from : ℕ) (from_is : from ≡ length at.terms.items) where
      abbrev came : List TermId
      came = take (length terms - from) (drop from terms)

      came_is : came ≡ grown_by.more
      came_is = behind at.terms.items grown_by.more terms from from_is (terms_are ∙ terms_more)

      pub terms_came : y.terms.items ≡ at.terms.items ++ came
      terms_came = terms_more ∙ ap (λ (ns : List TermId). at.terms.items ++ ns) (sym came_is)

      pub grown_terms : y.terms.items ≡ x.terms.items ++ came
      grown_terms = terms_came ∙ ap (λ (ns : Vec TermId Global). ns.items ++ came) back.terms

      -- a theory that watched what it had, watches them, too
      pub keeps_asked : (a b : TheoryView) → IsAsked a at → at.trail.level ≡ 0 → b ≡ record { held = a.held; watched = a.watched ++ came; marks = a.marks } → IsAsked b y
      keeps_asked a b keeps level is =
          asked_more a b at y keeps same_trail (same_trail.level ∙ level) (ap (λ (s : Search). s.fed) related.same ∙ grown_by.fed) (ap (λ (k : TheoryView). k.held) is) (ap (λ (k : TheoryView). k.marks) is)
          (ap (λ (k : TheoryView). k.watched) is ∙ ap (λ (ns : List TermId). ns ++ came) keeps.terms ∙ sym terms_came)
        where
          same_trail : HasSame at.trail y.trail
          same_trail = subst (λ (trail : TrailView). HasSame at.trail trail) (sym (ap (λ (s : Search). s.trail) related.same)) grown_by.trail

      pub once : (a : TheoryView) → IsAsked a at → AllPairs (λ (i j : TermId). i ≢ j) (a.watched ++ came)
      once a keeps = once_watched a.watched at.terms.items came keeps.terms (subst (AllPairs (λ (i j : TermId). i ≢ j)) terms_came related.ready.atoms_are.once)
