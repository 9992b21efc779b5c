-- What a search with both theories shows where it ends, and that it can go on where it rests.
use Rattle.std.specs.Prelude.{Result, Ok, Err, IsErrAnd, MatchResult}
use Rattle.std.proofs.Common.{◌≡◌, ◌+◌, ◌≤◌, ℕ, List, [], length, sym, ap, ◌∙◌, subst, arith}
use Rattle.spec_sorts.specs.Terms.{Term}
use Rattle.spec_sorts.specs.Subsets.{AreAmong}
use Rattle.spec_derivations.specs.Orders.{whole_terms}
use Rattle.spec_derivations.specs.Examples.{speaking}
use Rattle.spec_causes.specs.Counts.{arithmetic_in}
use Rattle.term_core.specs.declared.ids.TermId.{TermId}
use Rattle.term_core.specs.Tables.{TableView, AreDifferent, Extends, clause_at}
use Rattle.term_core.proofs.TermsExtend.{clause_at-kept}
use Rattle.sat_budget.specs.declared.limits.Stop.{Stop}
use Rattle.sat_budget.specs.declared.limits.Stop.TheVariants as stops
use Rattle.sat_budget.specs.Budgets.{StopsBy}
use Rattle.proof_log.specs.Logs.{IsLogOf}
use Rattle.proof_log.specs.Theories.{TheoryView, terms_watched, CameTo}
use Rattle.congruence_relation.specs.Relation.{AreFactsOf}
use Rattle.congruence.specs.Views.{theory_of}
use Rattle.simplex.specs.Checks.{Suits}
use Rattle.simplex.specs.Coming.{CameBy, StoppedBy, IsOverflowAt}
use Rattle.combined.specs.Views.{CombinedView}
use Rattle.search_loop.specs.declared.search.Search.{Search}
use Rattle.search_loop.specs.declared.cdcl.Answer.{Answer}
use Rattle.search_loop.specs.declared.cdcl.End.{End}
use Rattle.search_loop.specs.Search.{SearchFits, images}
use Rattle.search_loop.specs.Asking.{IsAsked, HasStopped, OnStop, state}
use Rattle.search_loop.specs.Paying.{atoms_of, paid, paid_by, paid_at, IsPaid}
use Rattle.search_loop.specs.Rounds.{Continues, ShowsAnswer}
use Rattle.solve_core.specs.Answering.{IsAnswered, IsStoppedBy}
use Rattle.solve_core.specs.Unspoken.{equalities_of, missing, unspoken_in}
use Rattle.solve_core.specs.GoingOn.{IsSearching}
use Rattle.solve_core.proofs.SearchNumbers.{same_terms}
use Rattle.solve_core.proofs.SearchAsked.{asked_for_on}
use Rattle.solve_core.proofs.SearchRuns.{made, exchanged, paid_ended, stopped_there}
use Rattle.solve_core.proofs.SearchStops.{answered_by, strained_by, stop_shown}

module _ (ts : List Term) (ids : List TermId) (t w : TableView) (x y : Search) (v z : CombinedView) (h : IsSearching ts ids (state t x) v 0) (on : Continues t w x y) where
  terms_same : clause_at w y.terms.items ≡ clause_at t x.terms.items
  terms_same = same_terms t w on.table x y h.ready on.terms

  atoms_same : atoms_of w y ≡ atoms_of t x
  atoms_same = ap (λ us. length (arithmetic_in us)) terms_same

  -- of as many equalities it does not speak
  pub unspoken_same : unspoken_in ids (state w y) ≡ unspoken_in ids (state t x)
  unspoken_same = λ i. missing (equalities_of (clause_at-kept t w on.table ids h.terms.asked.shared.there i)) (terms_same i)

  -- what was paid before it ran pays for the run
  paid_for : (us : List Term) → AreAmong (clause_at w y.terms.items) us → IsPaid (λ n. CameBy t us n x.budget.exchanges v.simplex) (paid_by t x h.grown 0)
  paid_for us among = h.paid us (subst (λ vs. AreAmong vs us) terms_same among)

  -- it is still under way where it rests
  pub searching_on : SearchFits w y → IsAsked (theory_of z.congruence) y → AreFactsOf w z.congruence.now.facts → Suits z.simplex w
      → ((us : List Term) (r : ℕ) → IsPaid (λ n. CameBy t us n x.budget.exchanges v.simplex) (paid_by t x r 0) → IsPaid (λ n. CameBy w us n y.budget.exchanges z.simplex) (paid_by w y r (atoms_of w y)))
      → IsSearching ts ids (state w y) z (atoms_of w y)
  searching_on ready asked congruence simplex came = record {
    ready = ready;
    asked = asked;
    congruence = congruence;
    simplex = simplex;
    terms = asked_for_on ts ids t w x y on h.terms;
    grown = h.grown;
    few = omega (arith, h.few, atoms_same);
    paid = λ us among. came us h.grown (paid_for us among);
  }

-- it can go on after it tried literals, where it is paid for as if it grew so often
module _ (ts : List Term) (ids : List TermId) (t w : TableView) (x y : Search) (v z : CombinedView) (h : IsSearching ts ids (state t x) v 0) (on : Continues t w x y) (r : ℕ) (few : r ≤ atoms_of t x) where
  pub tried_on : SearchFits w y → IsAsked (theory_of z.congruence) y → AreFactsOf w z.congruence.now.facts → Suits z.simplex w
      → ((us : List Term) → AreAmong (clause_at t x.terms.items) us → IsPaid (λ n. CameBy w us n y.budget.exchanges z.simplex) (paid_by w y r 0)) → IsSearching ts ids (state w y) z 0
  tried_on ready asked congruence simplex came = record {
    ready = ready;
    asked = asked;
    congruence = congruence;
    simplex = simplex;
    terms = asked_for_on ts ids t w x y on h.terms;
    grown = r;
    few = omega (arith, few, atoms_same ts ids t w x y v z h on);
    paid = λ us among. came us (subst (λ vs. AreAmong vs us) (terms_same ts ids t w x y v z h on) among);
  }

-- where it ends, its answer is shown
pub ended_in : (ts : List Term) (ids : List TermId) (t w : TableView) (x y : Search) (v z : CombinedView) → IsSearching ts ids (state t x) v 0 → Extends t w → y.terms ≡ x.terms → AreDifferent t.terms → (limit : ℕ) → y.budget.limit ≡ limit → IsLogOf w y.log
    → (end : End) (a : Answer) → ShowsAnswer t w x y a → (r : ℕ) → r ≤ atoms_of t x
    → ((us : List Term) → AreAmong (clause_at t x.terms.items) us → IsPaid (λ n. CameBy w us n y.budget.exchanges z.simplex) (paid_at w y r end)) → IsAnswered ts limit (state w y) a
ended_in ts ids t w x y v z h grows terms differ limit limit_is right end a shows r grew came =
    let p = speaking ts h.terms.interface in
    let s = h.terms.asked.asked in
    let l = length y.budget.learned in
    let atoms : atoms_of w y ≡ atoms_of t x = ap (λ us. length (arithmetic_in us)) (same_terms t w grows x y h.ready terms) in
    let n = came (whole_terms p) s.listed.only in
    let few : n.0 ≤ 1 + paid (atoms_of t x) l r (atoms_of t x) = subst (λ a. n.0 ≤ 1 + paid a l r a) atoms (omega (arith, n.1, paid_ended w y r end)) in
    answered_by ts limit t w x y h.terms.interface s h.terms.asked.apart right limit_is a shows
    (made p y.budget a (exchanged t differ x h.ready (whole_terms p) s.listed.only r grew w z.simplex l y.budget.exchanges (n.0, few, n.2)))

-- so after a run
pub ended_by : (ts : List Term) (ids : List TermId) (t w : TableView) (x y : Search) (v z : CombinedView) → IsSearching ts ids (state t x) v 0 → Extends t w → y.terms ≡ x.terms → AreDifferent t.terms → (limit : ℕ) → y.budget.limit ≡ limit → IsLogOf w y.log
    → (end : End) (a : Answer) → ShowsAnswer t w x y a
    → ((us : List Term) (r : ℕ) → IsPaid (λ n. CameBy t us n x.budget.exchanges v.simplex) (paid_by t x r 0) → IsPaid (λ n. CameBy w us n y.budget.exchanges z.simplex) (paid_at w y r end)) → IsAnswered ts limit (state w y) a
ended_by ts ids t w x y v z h grows terms differ limit limit_is right end a shows came =
    ended_in ts ids t w x y v z h grows terms differ limit limit_is right end a shows h.grown h.few (λ us among. came us h.grown (h.paid us among))

-- what is shown of a stop that goes up
pub handed_answers : {A : Type 0} (P : A → Type 0) (Q : Stop → Type 0) (r : Result A Stop) (e : Stop) → IsErrAnd r (λ s. s ≡ e) → Q e → MatchResult r P Q
handed_answers P Q (Ok x) e is h = absurd is
handed_answers P Q (Err s) e is h = subst Q (sym is) h

-- a stop is shown
pub stopped_in : (ts : List Term) (ids : List TermId) (t w : TableView) (x y : Search) (v z : CombinedView) → IsSearching ts ids (state t x) v 0 → AreDifferent t.terms → (limit : ℕ) → x.budget.limit ≡ limit → (P : Type 0) {A : Type 0} (Q : List Term → A → Type 0) (stop : Stop)
    → OnStop (P × HasStopped (state t x) (state w y) (theory_of z.congruence)) stop → StopsBy (λ e. IsOverflowAt w (terms_watched w (theory_of z.congruence)) e z.simplex) stop → (r : ℕ) → r ≤ atoms_of t x
    → ((us : List Term) → AreAmong (clause_at t x.terms.items) us
    → CameTo (let result : Result A Stop = Err stop in result) (Q us) (IsPaid (λ n. StoppedBy w us n y.budget.exchanges z.simplex) (paid_by w y r (atoms_of w y)))) → IsStoppedBy ts limit (state w y) stop
stopped_in ts ids t w x y v z h differ limit limit_is P Q (stops.Strained e) stopped strain r grew came =
    let p = speaking ts h.terms.interface in
    let s = h.terms.asked.asked in
    let on = stopped.1.continues in
    let watched = ap (clause_at w) stopped.1.terms ∙ same_terms t w on.table x y h.ready on.terms in
    let among = subst (λ us. AreAmong us (whole_terms p)) (sym watched) s.listed.only in
    let atoms = ap (λ us. length (arithmetic_in us)) (same_terms t w on.table x y h.ready on.terms) in
    let l = length y.budget.learned in
    let m = paid_by w y r (atoms_of w y) in
    let few : m ≤ 1 + paid (atoms_of t x) l r (atoms_of t x) = subst (λ a. m ≤ 1 + paid a l r a) atoms (omega arith) in
    strained_by ts limit w y h.terms.interface h.terms.asked.apart.equalities (images w y.store.clauses) (on.search p [] s).derived (on.apart p [] s h.terms.asked.apart).apart stopped.1.right (on.limit ∙ limit_is) (stops.Strained e)
    (stop_shown t differ x h.ready p s.listed.only r grew (Q (whole_terms p)) w z.simplex l m y.budget.exchanges (terms_watched w (theory_of z.congruence)) among few (stops.Strained e)
    (came (whole_terms p) s.listed.only) strain)
stopped_in ts ids t w x y v z h differ limit limit_is P Q stops.Memory stopped strain r grew came = tt

-- so is one of its run
pub run_stopped : (ts : List Term) (ids : List TermId) (t w : TableView) (x y : Search) (v z : CombinedView) → IsSearching ts ids (state t x) v 0 → AreDifferent t.terms → (limit : ℕ) → x.budget.limit ≡ limit → (P : Type 0) (Q : List Term → ℕ → End → Type 0) (stop : Stop)
    → OnStop (P × HasStopped (state t x) (state w y) (theory_of z.congruence)) stop → StopsBy (λ e. IsOverflowAt w (terms_watched w (theory_of z.congruence)) e z.simplex) stop
    → ((us : List Term) (r : ℕ) → IsPaid (λ n. CameBy t us n x.budget.exchanges v.simplex) (paid_by t x r 0)
    → CameTo (let result : Result End Stop = Err stop in result) (Q us r) (IsPaid (λ n. StoppedBy w us n y.budget.exchanges z.simplex) (paid_by w y r (atoms_of w y)))) → IsStoppedBy ts limit (state w y) stop
run_stopped ts ids t w x y v z h differ limit limit_is P Q stop stopped strain came =
    stopped_in ts ids t w x y v z h differ limit limit_is P (λ us. Q us h.grown) stop stopped strain h.grown h.few (λ us among. came us h.grown (h.paid us among))

-- so is one where the numbers of shared terms are computed
pub numbers_stopped : (ts : List Term) (ids : List TermId) (t : TableView) (x : Search) (v : CombinedView) → IsSearching ts ids (state t x) v (atoms_of t x) → AreDifferent t.terms → IsLogOf t x.log → (limit : ℕ) → x.budget.limit ≡ limit → theory_of v.congruence ≡ v.simplex.theory → (stop : Stop)
    → StopsBy (λ e. IsOverflowAt t (terms_watched t v.simplex.theory) e v.simplex) stop → IsStoppedBy ts limit (state t x) stop
numbers_stopped ts ids t x v h differ right limit limit_is same (stops.Strained e) strain =
    let p = speaking ts h.terms.interface in
    let s = h.terms.asked.asked in
    let l = length x.budget.learned in
    let es = x.budget.exchanges in
    let m = paid_by t x h.grown (atoms_of t x) in
    let watched = ap (λ (z : TheoryView). clause_at t z.watched) (sym same) ∙ ap (clause_at t) h.asked.terms in
    let among = subst (λ us. AreAmong us (whole_terms p)) (sym watched) s.listed.only in
    strained_by ts limit t x h.terms.interface h.terms.asked.apart.equalities (images t x.store.clauses) s.derived h.terms.asked.apart.apart right limit_is (stops.Strained e)
    (stop_shown t differ x h.ready p s.listed.only h.grown h.few (λ (_ : Unit {0}). Unit {0}) t v.simplex l m es (terms_watched t v.simplex.theory) among (omega arith) (stops.Strained e)
    (stopped_there t (whole_terms p) m es v.simplex (h.paid (whole_terms p) s.listed.only)) strain)
numbers_stopped ts ids t x v h differ right limit limit_is same stops.Memory strain = tt
