-- How simplex came to its state, as literals are held, terms are watched, and a check runs.
use Rattle.std.proofs.Common.{◌≡◌, ◌≤◌, ℕ, zero, suc, List, length, map, take, All, Contains, Result, Ok, Err, Option, Some, None, inl, inr, refl, sym, ap, subst, arith}
use Rattle.std.specs.Prelude.{cond, IsSome, MatchResult}
use Rattle.std.specs.Option.{is_some}
use Rattle.std.proofs.lemmas.Bool.{false≢true}
use Rattle.std.proofs.lemmas.List.Elements.{All-weaker, All-contains, All-take, All-push}
use Rattle.spec_text.proofs.Members.{to_image, from_image}
use Rattle.spec_sorts.specs.Terms.{Term}
use Rattle.spec_sorts.specs.Subsets.{AreAmong}
use Rattle.spec_tableaux.specs.SolvedForms.{IsSolved}
use Rattle.spec_tableaux.specs.Numbers.{numbers}
use Rattle.spec_tableaux.specs.Ranges.{Meets}
use Rattle.spec_tableaux.specs.Points.{deltas, point_in, Ranges}
use Rattle.spec_tableaux.specs.Runs.{Ran, Stopped, updating_nonbasic, exchanging}
use Rattle.spec_simplex.specs.Constraints.{Constraint, constraint_of}
use Rattle.spec_causes.specs.TermTableau.{TermTableau, moved_to}
use Rattle.spec_causes.specs.Bounds.{AreBounds}
use Rattle.spec_causes.specs.Reached.{IsReached, IsStoppedAt}
use Rattle.spec_causes.specs.Reached as reached
use Rattle.spec_causes.specs.Counts.{counted}
use Rattle.spec_causes.proofs.IdleChecks.{kept_makes_none, kept_is_not_short}
use Rattle.no_memory.specs.declared.NoMemory.{NoMemory}
use Rattle.term_core.specs.declared.ids.TermId.{TermId}
use Rattle.term_core.specs.declared.ids.Lit.{Lit}
use Rattle.term_core.specs.Tables.{TableView, term_at, clause_at, positive_literal, IsIn, Extends}
use Rattle.sat_budget.specs.Budgets.{BudgetView}
use Rattle.sat_budget.specs.declared.limits.Stop.{Stop}
use Rattle.sat_budget.specs.declared.limits.Stop.TheVariants.{Strained}
use Rattle.sat_budget.specs.declared.limits.Stop.TheVariants as stops
use Rattle.proof_log.specs.Theories.{TheoryView, with_watched, with_held, with_mark, gone_back, IsTermIn, IsTheoryOver, terms_watched, CameTo}
use Rattle.simplex_bounds.specs.declared.bounds.Bound.{Bound}
use Rattle.simplex_bounds.specs.Held.{BoundsView, ranges_in}
use Rattle.simplex_bounds.proofs.Fewer.{fewer_kept}
use Rattle.simplex_check.specs.Assignments.{AssignmentView, state_of}
use Rattle.simplex_check.specs.Ends.{EndsCheck}
use Rattle.simplex_check.specs.declared.check.CheckOutcome.{CheckOutcome}
use Rattle.simplex_check.specs.declared.check.CheckOutcome.TheVariants.{Fine, Crossed, Conflict}
use Rattle.simplex_atoms.specs.declared.slack.Slack.{Slack}
use Rattle.simplex_atoms.specs.Atoms.{AtomsView}
use Rattle.simplex_atoms.specs.Slacks.{slack_in}
use Rattle.simplex_atoms.specs.TermTableauViews.{owner_meant, term_tableau_in}
use Rattle.simplex_atoms.specs.Watching.{IsWatched}
use Rattle.simplex_explain.specs.Stated.{IsKnownIn}
use Rattle.simplex_explain.proofs.StatedBounds.{all_from}
use Rattle.simplex_explain.proofs.TermTableauViews.{term_tableau_kept, among_kept, atoms_kept}
use Rattle.held_literals.specs.Room.{AreOverWatched}
use Rattle.simplex.specs.Views.{SimplexView, SimplexFits, IsOf}
use Rattle.simplex.specs.Checks.{Suits, KeepsBounds}
use Rattle.simplex.specs.Coming.{term_tableau_of, AreFew, CameBy, StoppedBy}
use Rattle.simplex.proofs.Bounding.{are_bounds}

-- how many runs were made

module _ (v w : SimplexView) (n runs : ℕ) where
  -- they are as few where what kept the bounds keeps them
  still_few : (KeepsBounds v → KeepsBounds w) → AreFew v n runs → AreFew w n runs
  still_few on (inl h) = inl (on h.0, h.1)
  still_few on (inr h) = inr h

  -- one more pays for another check
  paid : AreFew v n runs → AreFew w (suc n) runs
  paid (inl h) = inr (omega (arith, h.1))
  paid (inr h) = inr (omega (arith, h))

  -- so it does where a term comes of which bounds may come
  pub counted_few : (u : Term) → (constraint_of (positive_literal u) ≡ None → KeepsBounds v → KeepsBounds w) → AreFew v n runs → AreFew w (counted u n) runs
  counted_few u plain few = by (constraint_of (positive_literal u)) refl
    where
      by : (c : Option Constraint) → constraint_of (positive_literal u) ≡ c → AreFew w (cond (is_some (constraint_of (positive_literal u))) (suc n) n) runs
      by None e = subst (λ (c : Option Constraint). AreFew w (cond (is_some c) (suc n) n) runs) (sym e) (still_few (plain e) few)
      by (Some x) e = subst (λ (c : Option Constraint). AreFew w (cond (is_some c) (suc n) n) runs) (sym e) (paid few)

-- they are no more than n
pub at_most : (v : SimplexView) (n runs : ℕ) → AreFew v n runs → runs ≤ n
at_most v n runs (inl h) = h.1
at_most v n runs (inr h) = omega (arith, h)

-- nor than what is more
few_more : (v : SimplexView) (m n runs : ℕ) → m ≤ n → AreFew v m runs → AreFew v n runs
few_more v m n runs le (inl h) = inl (h.0, omega (arith, le, h.1))
few_more v m n runs le (inr h) = inr (omega (arith, le, h))

pub came_more : (t : TableView) (ts : List Term) (m n : ℕ) (es : List (ℕ × ℕ)) (v : SimplexView) → m ≤ n → CameBy t ts m es v → CameBy t ts n es v
came_more t ts m n es v le came = record {
  watched = came.watched;
  held = came.held;
  runs = came.runs;
  reached = came.reached;
  few = few_more v m n came.runs le came.few;
}

-- bounds that go leave the values within
keeps_fewer : (v w : SimplexView) (n : ℕ) → w.assignment ≡ v.assignment → w.bounds.held ≡ take n v.bounds.held → KeepsBounds v → KeepsBounds w
keeps_fewer v w n b held keeps =
    subst (λ (x : AssignmentView). Meets deltas x.tableau.rows (ranges_in w.bounds.held) (point_in x.values)) (sym b)
    (subst (λ (bs : List Bound). Meets deltas v.assignment.tableau.rows (ranges_in bs) (point_in v.assignment.values)) (sym held)
    (record { solves = keeps.solves; within = fewer_kept n v.bounds.held (point_in v.assignment.values) keeps.within }))

-- the same values keep the same bounds
pub keeps_same : (v w : SimplexView) → w.assignment ≡ v.assignment → w.bounds.held ≡ v.bounds.held → KeepsBounds v → KeepsBounds w
keeps_same v w b held keeps =
    subst (λ (x : AssignmentView). Meets deltas x.tableau.rows (ranges_in w.bounds.held) (point_in x.values)) (sym b)
    (subst (λ (bs : List Bound). Meets deltas v.assignment.tableau.rows (ranges_in bs) (point_in v.assignment.values)) (sym held) keeps)

-- a term that says nothing of numbers has no place
pub no_slack_known : (o : Option Slack) (c : Option Constraint) → IsWatched o c → c ≡ None → o ≡ None
no_slack_known None c known e = refl
no_slack_known (Some slack) c known e = absurd (false≢true (subst IsSome e known))

-- over a table that has more
pub came_over_more : (v : SimplexView) (t u : TableView) → Extends t u → Suits v t → (ts : List Term) (n : ℕ) (es : List (ℕ × ℕ)) → CameBy t ts n es v → CameBy u ts n es v
came_over_more v t u more with ts n es came = record {
  watched = among_kept t u more ts v.theory.watched with.there came.watched;
  held = atoms_kept t u more ts v.theory.held with.held came.held;
  runs = came.runs;
  reached = subst (IsReached ts came.runs es) (sym (term_tableau_kept t u more v.atoms.owners v.assignment with.is.right.owners_in)) came.reached;
  few = came.few;
}

-- it is stopped where places and rows are the same
pub stopped_same : (t : TableView) (ts : List Term) (n : ℕ) (es : List (ℕ × ℕ)) (v w : SimplexView) → w.atoms ≡ v.atoms → w.assignment ≡ v.assignment → StoppedBy t ts n es v → StoppedBy t ts n es w
stopped_same t ts n es v w a b s = record {
  runs = s.runs;
  stopped = subst (λ (x : AtomsView). IsStoppedAt ts s.runs es (term_tableau_in t x.owners w.assignment)) (sym a)
      (subst (λ (x : AssignmentView). IsStoppedAt ts s.runs es (term_tableau_in t v.atoms.owners x)) (sym b) s.stopped);
  few = s.few;
}

-- literals are held, marks are set, and back

module _ (t : TableView) (ts : List Term) where
  -- each of the terms
  abbrev pub AllOf : List TermId → Type 0
  AllOf ids = All (λ id. Contains ts (term_at t id)) ids

  -- the atoms of the literals
  abbrev pub AtomsOf : List Lit → Type 0
  AtomsOf ls = All (λ (l : Lit). Contains ts (term_at t l.term)) ls

  each_among : (ids : List TermId) → AreAmong (clause_at t ids) ts → AllOf ids
  each_among ids h = all_from (λ id. Contains ts (term_at t id)) ids (λ id has. h (term_at t id) (to_image (term_at t) ids id has))

  all_among : (ids : List TermId) → AllOf ids → AreAmong (clause_at t ids) ts
  all_among ids h u has =
      let x = from_image (term_at t) ids u has in
      subst (Contains ts) x.2 (All-contains (λ id. Contains ts (term_at t id)) ids x.0 h x.1)

  module _ (n : ℕ) (es : List (ℕ × ℕ)) (old new : SimplexView) (came : CameBy t ts n es old) where
    -- it is in the state that it was in
    comes_there : (m : ℕ) → AreFew new m came.runs → new.atoms ≡ old.atoms → new.assignment ≡ old.assignment → AllOf new.theory.watched → AtomsOf new.theory.held → CameBy t ts m es new
    comes_there m few a b watched held = record {
      watched = all_among new.theory.watched watched;
      held = held;
      runs = came.runs;
      reached = subst (λ (x : AtomsView). IsReached ts came.runs es (term_tableau_in t x.owners new.assignment)) (sym a)
          (subst (λ (x : AssignmentView). IsReached ts came.runs es (term_tableau_in t old.atoms.owners x)) (sym b) came.reached);
      few = few;
    }

    -- it holds the same bounds
    same_few : new.assignment ≡ old.assignment → new.bounds.held ≡ old.bounds.held → AreFew new n came.runs
    same_few b bounds = still_few old new n came.runs (keeps_same old new b bounds) came.few

    -- it watches and holds the same
    pub came_same : new.atoms ≡ old.atoms → new.assignment ≡ old.assignment → new.bounds.held ≡ old.bounds.held → new.theory.watched ≡ old.theory.watched → new.theory.held ≡ old.theory.held → CameBy t ts n es new
    came_same a b bounds watched held =
        comes_there n (same_few b bounds) a b (subst AllOf (sym watched) (each_among old.theory.watched came.watched)) (subst AtomsOf (sym held) came.held)

    -- it watches a term more
    pub came_watching : (id : TermId) → Contains ts (term_at t id) → new.atoms ≡ old.atoms → new.assignment ≡ old.assignment → new.bounds.held ≡ old.bounds.held → new.theory ≡ with_watched old.theory id → CameBy t ts n es new
    came_watching id there a b bounds theory =
        comes_there n (same_few b bounds) a b
        (subst AllOf (sym (ap (λ (v : TheoryView). v.watched) theory)) (All-push (λ id. Contains ts (term_at t id)) old.theory.watched id (each_among old.theory.watched came.watched) there))
        (subst AtomsOf (sym (ap (λ (v : TheoryView). v.held) theory)) came.held)

    -- it holds a literal more
    pub came_holding : (l : Lit) → Contains old.theory.watched l.term → All (IsKnownIn t old.atoms.slack_list) old.theory.watched → new.atoms ≡ old.atoms → new.assignment ≡ old.assignment
        → (slack_in old.atoms.slack_list l.term ≡ None → new.bounds.held ≡ old.bounds.held) → new.theory ≡ with_held old.theory l → CameBy t ts (counted (term_at t l.term) n) es new
    came_holding l there known a b plain theory =
        let u = term_at t l.term in
        let watched = each_among old.theory.watched came.watched in
        let is_known = All-contains (IsKnownIn t old.atoms.slack_list) old.theory.watched l.term known there in
        comes_there (counted u n)
        (counted_few old new n came.runs u (λ e. keeps_same old new b (plain (no_slack_known (slack_in old.atoms.slack_list l.term) (constraint_of (positive_literal u)) is_known e))) came.few)
        a b
        (subst AllOf (sym (ap (λ (v : TheoryView). v.watched) theory)) watched)
        (subst AtomsOf (sym (ap (λ (v : TheoryView). v.held) theory)) (All-push (λ (l : Lit). Contains ts (term_at t l.term)) old.theory.held l came.held
        (All-contains (λ id. Contains ts (term_at t id)) old.theory.watched l.term watched there)))

    -- it went back
    pub came_back : (k : ℕ) → new.atoms ≡ old.atoms → new.assignment ≡ old.assignment → (m : ℕ) × (new.bounds.held ≡ take m old.bounds.held) → new.theory ≡ gone_back k old.theory → CameBy t ts n es new
    came_back k a b bounds theory = by k theory
      where
        few : AreFew new n came.runs
        few = still_few old new n came.runs (keeps_fewer old new bounds.0 b bounds.1) came.few

        by : (k : ℕ) → new.theory ≡ gone_back k old.theory → CameBy t ts n es new
        by zero theory =
            comes_there n few a b
            (subst AllOf (sym (ap (λ (v : TheoryView). v.watched) theory)) (each_among old.theory.watched came.watched))
            (subst AtomsOf (sym (ap (λ (v : TheoryView). v.held) theory)) came.held)
        by (suc k) theory =
            comes_there n few a b
            (subst AllOf (sym (ap (λ (v : TheoryView). v.watched) theory)) (All-take (λ id. Contains ts (term_at t id)) _ old.theory.watched (each_among old.theory.watched came.watched)))
            (subst AtomsOf (sym (ap (λ (v : TheoryView). v.held) theory)) (All-take (λ (l : Lit). Contains ts (term_at t l.term)) _ old.theory.held came.held))

  -- a mark changes nothing of it
  pub came_marked : (n : ℕ) (es : List (ℕ × ℕ)) (old new : SimplexView) → CameBy t ts n es old → (r : Result (Unit {0}) NoMemory) → new.atoms ≡ old.atoms → new.assignment ≡ old.assignment
      → new.bounds ≡ old.bounds → MatchResult r (λ _. new.theory ≡ with_mark old.theory) (λ _. new.theory ≡ old.theory) → CameBy t ts n es new
  came_marked n es old new came (Ok x) a b bounds m =
      came_same n es old new came a b (ap (λ (v : BoundsView). v.held) bounds) (ap (λ (v : TheoryView). v.watched) m) (ap (λ (v : TheoryView). v.held) m)
  came_marked n es old new came (Err x) a b bounds m =
      came_same n es old new came a b (ap (λ (v : BoundsView). v.held) bounds) (ap (λ (v : TheoryView). v.watched) m) (ap (λ (v : TheoryView). v.held) m)

  -- held literals are of watched terms
  pub atoms_among : (v : TheoryView) → AreOverWatched v.held v.watched → AreAmong (terms_watched t v) ts → AtomsOf v.held
  atoms_among v over among = all_from (λ (l : Lit). Contains ts (term_at t l.term)) v.held (λ l has.
      among (term_at t l.term) (to_image (term_at t) v.watched l.term (All-contains (λ (l : Lit). Contains v.watched l.term) v.held l over has)))

-- held literals are of watched terms
pub watched_atoms : (t : TableView) (v : SimplexView) → AreOverWatched v.theory.held v.theory.watched → All (λ (l : Lit). Contains (terms_watched t v.theory) (term_at t l.term)) v.theory.held
watched_atoms t v over = atoms_among t (terms_watched t v.theory) v.theory over (λ u has. has)

-- the bounds that are held are of watched terms
pub watched_bounds : (t : TableView) (v : SimplexView) → IsOf v t → SimplexFits v → AreOverWatched v.theory.held v.theory.watched → AreBounds (terms_watched t v.theory) (term_tableau_of t v) (ranges_in v.bounds.held)
watched_bounds t v is fits over = are_bounds t v is fits (terms_watched t v.theory) (watched_atoms t v over)

-- what goes with a table where terms are watched
pub suits_over : (t : TableView) (v : SimplexView) → IsOf v t → IsTheoryOver t v.theory → AreOverWatched v.theory.held v.theory.watched → Suits v t
suits_over t v is over held =
    let there = All-weaker (IsTermIn t) (IsIn t) (λ id k. k.0) v.theory.watched over.terms in
    record {
      is = is;
      there = there;
      held = all_from (λ (l : Lit). IsIn t l.term) v.theory.held (λ l has. All-contains (IsIn t) v.theory.watched l.term there (All-contains (λ (l : Lit). Contains v.theory.watched l.term) v.theory.held l held has));
    }

-- parts that fit do so with another assignment
pub fits_on : (v : SimplexView) (c : AssignmentView) → SimplexFits v → SimplexFits (record { theory = v.theory; atoms = v.atoms; assignment = c; bounds = v.bounds; starts = v.starts })
fits_on v c f = record { bounds_are = f.bounds_are; starts_are = f.starts_are; room = f.room; reached = f.reached }

-- What a check comes to over terms, by no more runs than n.
record Onward (ts : List Term) (n : ℕ) (es : List (ℕ × ℕ)) (s : TermTableau) : Type 0 where
  pub runs : ℕ
  pub reached : IsReached ts runs es s
  pub few : runs ≤ n

-- a check runs

module _ (t : TableView) (ts : List Term) (v : SimplexView) (c : AssignmentView) (is : IsOf v t) (fits : SimplexFits v) (solved : IsSolved numbers v.assignment.tableau.rows)
    (listed : c.tableau.listed ≡ v.assignment.tableau.listed) (lengths : length c.values ≡ length v.assignment.values) where
  abbrev after : SimplexView
  after = record { theory = v.theory; atoms = v.atoms; assignment = c; bounds = v.bounds; starts = v.starts }

  abbrev ranges : Ranges
  ranges = ranges_in v.bounds.held

  -- it goes on to the state that it is in then
  moved : (P : TermTableau → Type 0) → P (moved_to (term_tableau_of t v) c.tableau.rows c.values) → P (term_tableau_of t after)
  moved P h = subst (λ rs. P (record { owners = map (owner_meant t) v.atoms.owners; listed = rs; rows = c.tableau.rows; values = c.values })) (sym listed) h

  module _ (n : ℕ) (old : List (ℕ × ℕ)) (came : CameBy t ts n old v) where
    bounds : AreBounds ts (term_tableau_of t v) ranges
    bounds = are_bounds t v is fits ts came.held

    -- where the values kept the bounds no exchange is made
    ran_on : (new : List (ℕ × ℕ)) → Ran ranges (state_of v.assignment) (state_of c) old new → Onward ts n new (term_tableau_of t after)
    ran_on new ran = by came.few
      where
        by : AreFew v n came.runs → Onward ts n new (term_tableau_of t after)
        by (inl h) =
            let none = kept_makes_none ranges (state_of v.assignment) (state_of c) old new solved h.0 ran in
            record {
              runs = came.runs;
              reached = subst (λ es. IsReached ts came.runs es (term_tableau_of t after)) (sym none)
                  (moved (IsReached ts came.runs old)
                  (reached.idling came.runs old (term_tableau_of t v) came.reached ranges bounds c.tableau.rows c.values lengths (subst (λ es. Ran ranges (state_of v.assignment) (state_of c) old es) none ran)));
              few = h.1;
            }
        by (inr h) = record {
          runs = suc came.runs;
          reached = moved (IsReached ts (suc came.runs) new)
              (reached.checking came.runs old new (term_tableau_of t v) came.reached ranges bounds c.tableau.rows c.values lengths ran);
          few = omega (arith, h);
        }

    -- nor is one begun
    stopped_on : (new : List (ℕ × ℕ)) → Stopped ranges (state_of v.assignment) (state_of c) old new → StoppedBy t ts n new after
    stopped_on new (updating_nonbasic m updates_nonbasic e) = record {
      runs = came.runs;
      stopped = subst (λ es. IsStoppedAt ts came.runs es (term_tableau_of t after)) (sym e)
          (moved (IsStoppedAt ts came.runs old)
          (reached.updating_nonbasic came.runs old (term_tableau_of t v) came.reached ranges bounds m c.tableau.rows c.values lengths updates_nonbasic));
      few = at_most v n came.runs came.few;
    }
    stopped_on new (exchanging short) = by came.few
      where
        by : AreFew v n came.runs → StoppedBy t ts n new after
        by (inl h) = absurd (kept_is_not_short ranges (state_of v.assignment) (state_of c) old new solved h.0 short)
        by (inr h) = record {
          runs = suc came.runs;
          stopped = moved (IsStoppedAt ts (suc came.runs) new)
              (reached.exchanging came.runs old new (term_tableau_of t v) came.reached ranges bounds c.tableau.rows c.values lengths short);
          few = omega (arith, h);
        }

    -- one run more pays for the next check
    onward_came : (new : List (ℕ × ℕ)) → Onward ts n new (term_tableau_of t after) → CameBy t ts (suc n) new after
    onward_came new on = record { watched = came.watched; held = came.held; runs = on.runs; reached = on.reached; few = inr (omega (arith, on.few)) }

  module _ (n : ℕ) (old new : BudgetView) (came : CameBy t ts n old.exchanges v) where
    -- it comes where a check ends
    onward : (o : CheckOutcome) → EndsCheck ranges v.assignment c old new (Ok o) → Onward ts n new.exchanges (term_tableau_of t after)
    onward Fine e = ran_on n old.exchanges came new.exchanges e.0
    onward (Conflict y) e = ran_on n old.exchanges came new.exchanges e.0
    onward (Crossed y) e = record {
      runs = came.runs;
      reached = subst (λ (b : BudgetView). IsReached ts came.runs b.exchanges (term_tableau_of t after)) (sym e.1)
          (subst (λ (b : AssignmentView). IsReached ts came.runs old.exchanges (term_tableau_in t v.atoms.owners b)) (sym e.0) came.reached);
      few = at_most v n came.runs came.few;
    }

    -- with bounds that are kept then, the next check needs none
    pub came_fine : (o : CheckOutcome) → EndsCheck ranges v.assignment c old new (Ok o) → KeepsBounds after → CameBy t ts n new.exchanges after
    came_fine o e keeps =
        let on = onward o e in
        record { watched = came.watched; held = came.held; runs = on.runs; reached = on.reached; few = inl (keeps, on.few) }

    -- and else it may need one
    pub came_found : (o : CheckOutcome) → EndsCheck ranges v.assignment c old new (Ok o) → CameBy t ts (suc n) new.exchanges after
    came_found o e = onward_came n old.exchanges came new.exchanges (onward o e)

    -- it may be stopped after the check
    pub stopped_found : (o : CheckOutcome) → EndsCheck ranges v.assignment c old new (Ok o) → StoppedBy t ts n new.exchanges after
    stopped_found o e =
        let on = onward o e in
        record { runs = on.runs; stopped = reached.between on.runs new.exchanges (term_tableau_of t after) on.reached; few = on.few }

    -- or in it
    pub came_stopped : {A : Type 0} (stop : Stop) (P : A → Type 0) → EndsCheck ranges v.assignment c old new (Err stop)
        → (let r : Result A Stop = Err stop in CameTo r P (StoppedBy t ts n new.exchanges after))
    came_stopped (Strained s) P e = stopped_on n old.exchanges came new.exchanges e.0
    came_stopped stops.Memory P e = tt

-- a stop where this is so of an overflow
pub stops_there : {A : Type 0} (P : A → Type 0) (S : Type 0) (stop : Stop) → S → (let r : Result A Stop = Err stop in CameTo r P S)
stops_there P S (Strained x) s = s
stops_there P S stops.Memory s = tt

-- what each of these leads to is so of what leads there
pub came_onward : {A : Type 0} (r : Result A Stop) (P Q : A → Type 0) (S S' : Type 0) → ((x : A) → P x → Q x) → (S → S') → CameTo r P S → CameTo r Q S'
came_onward (Ok x) P Q S S' p s h = p x h
came_onward (Err (Strained x)) P Q S S' p s h = s h
came_onward (Err stops.Memory) P Q S S' p s h = tt
