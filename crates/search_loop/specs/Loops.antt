-- What each call of the loop does to a search and its theory. Source: Nieuwenhuis, Oliveras and Tinelli, Solving SAT
-- and SAT modulo theories, JACM 2006.
use Rattle.std.specs.Prelude.{◌≡◌, ◌+◌, ◌<◌, ℕ, List, ◌++◌, length, take, Bool, Result, Option, None, Some}
use Rattle.std.specs.Prelude.{IfOk, OnOk, IfErr, IfSome, MatchBool}
use Rattle.spec_sorts.specs.Terms.{Term}
use Rattle.spec_sorts.specs.Subsets.{AreAmong}
use Rattle.term_core.specs.declared.ids.TermId.{TermId}
use Rattle.term_core.specs.declared.ids.Lit.{Lit}
use Rattle.term_core.specs.Tables.{TableView, declared_in, Extends, clause_at}
use Rattle.no_memory.specs.declared.NoMemory.{NoMemory}
use Rattle.sat_budget.specs.declared.limits.Stop.{Stop}
use Rattle.sat_budget.specs.Budgets.{StopsBy}
use Rattle.proof_log.specs.declared.premises.StepId.{StepId}
use Rattle.proof_log.specs.declared.theory.Verdict.{Verdict}
use Rattle.proof_log.specs.Logs.{IsLogOf}
use Rattle.proof_log.specs.Theories.{terms_watched, literals_held, CameTo, paid_after}
use Rattle.proof_log.specs.Meanings.{Meaning, KeepsRuns}
use Rattle.sat_trail.specs.Trails.{TrailView}
use Rattle.search_loop.specs.declared.search.Search.{Search}
use Rattle.search_loop.specs.declared.cdcl.End.{End}
use Rattle.search_loop.specs.Search.{SearchFits, conflict_of}
use Rattle.search_loop.specs.Appending.{Appends}
use Rattle.search_loop.specs.Rounds.{IsStep, KeepsLimit, HasLearned, Continues}
use Rattle.search_loop.specs.Asking.{IsAsked, KeepsUp, SearchState, state, LookFinds, HasSaturated, HasStopped, OnStop}
use Rattle.search_loop.specs.Asking.{ResolvesConflict, EndsSearch}
use Rattle.search_loop.specs.Paying.{counted_among, counted_held, atoms_of, paid_by, paid_at, IsPaid, Looked}

-- What the loop goes on from.
pub record LoopState : Type 1 where
  -- the table
  pub table : TableView
  -- the search over it
  pub search : Search
  -- its theory
  pub theory : Meaning

-- a search over a table, with its theory
abbrev pub loop_state : TableView → Search → Meaning → LoopState
loop_state t x m = record { table = t; search = x; theory = m }

-- the search over its table alone
abbrev pub search_of : LoopState → SearchState
search_of s = state s.table s.search

-- The loop can go on.
pub record CanLoop (s : LoopState) : Type 0 where
  -- what the search has fits together
  pub ready : SearchFits s.table s.search
  -- the theory is asked by it
  pub asked : IsAsked s.theory.view s.search
  -- and goes with the table
  pub with : s.theory.goes_with s.table

-- the theory agrees to what it holds
abbrev pub HasAgreed : LoopState → Type 0
HasAgreed s = s.theory.agrees (terms_watched s.table s.theory.view) (literals_held s.table s.theory.view)

-- the theory came by so many runs of the exchanges that the budget keeps
abbrev pub CameInLoop : LoopState → List Term → ℕ → Type 0
CameInLoop s ts n = s.theory.running.came_by s.table ts n s.search.budget.exchanges

-- it was stopped in one of these
abbrev pub StoppedInLoop : LoopState → List Term → ℕ → Type 0
StoppedInLoop s ts n = s.theory.running.stopped_by s.table ts n s.search.budget.exchanges

-- What a look came to.
pub record Looks (old new : LoopState) (result : Result Verdict Stop) : Type 0 where
  -- terms may have come, and no symbols
  pub grown : Extends old.table new.table
  pub declared : declared_in new.table ≡ declared_in old.table
  -- the theory goes with the table
  pub with : IfOk result (λ _. new.theory.goes_with new.table)
  -- what is found
  pub looks : IfOk result (LookFinds (search_of old) (search_of new) new.theory.view (HasAgreed new))
  -- nothing is learned
  pub learned : new.search.budget.learned ≡ old.search.budget.learned
  -- runs are paid by the literals that came to hold, and by a clash
  pub came : (ts : List Term) (n : ℕ) → CameInLoop old ts n
      → Looked (search_of old) old.theory.view.held new.theory.view.held n
      (λ m. CameTo result (λ verdict. IsPaid (CameInLoop new ts) (paid_after verdict m)) (StoppedInLoop new ts m))
  -- a stop is shown
  pub stops : IfErr result
      (StopsBy (new.theory.running.may_overflow new.table (terms_watched new.table new.theory.view)))
  -- and leaves the search as one for the same terms
  pub stopped : IfErr result (OnStop (new.theory.goes_with new.table
      × HasStopped (search_of old) (search_of new) new.theory.view))

-- What a conflict came to.
pub record ResolvesClash (old new : LoopState) (result : Result (Option End) NoMemory) : Type 0 where
  -- terms may have come, and no symbols
  pub grown : Extends old.table new.table
  pub declared : declared_in new.table ≡ declared_in old.table
  -- the theory goes with the table
  pub with : IfOk result (λ _. new.theory.goes_with new.table)
  -- it came by the same runs
  pub came : IfOk result (λ _. (ts : List Term) (n : ℕ) → CameInLoop old ts n → CameInLoop new ts n)
  -- each step of the log is right
  pub right : IfOk result (λ _. IsLogOf new.table new.search.log)
  -- the search fits together, also where it ends
  pub ready : IfOk result (λ _. SearchFits new.table new.search)
  -- what came into it came last
  pub appended : IfOk result (λ _. Appends old.search new.search)
  -- the budget has its limit
  pub limit : IfOk result (λ _. KeepsLimit old.search.budget new.search.budget)
  -- where the search ends, terms and budget are the same
  pub ended : IfOk result (λ end. IfSome end (λ _. (new.search.terms ≡ old.search.terms)
      × (new.search.budget ≡ old.search.budget)))
  -- what comes of it
  pub resolves_conflict : IfOk result (ResolvesConflict (search_of old) (search_of new) new.theory.view)

-- A clause is learned from a clash, and the search goes back.
pub record LearnsFrom (clash : StepId) (old new : LoopState) : Type 0 where
  -- the theory goes with the table
  pub with : new.theory.goes_with new.table
  -- it came by the same runs
  pub came : (ts : List Term) (n : ℕ) → CameInLoop old ts n → CameInLoop new ts n
  -- the clause is logged
  pub step : IsStep (conflict_of old.table old.search clash) new.table new.search.log
  -- the theory keeps up
  pub asked : IsAsked new.theory.view new.search
  -- the clause is learned
  pub learned : HasLearned old.table new.table old.search new.search

-- What a run of the loop came to.
pub record RunsLoop (old new : LoopState) (result : Result End Stop) : Type 0 where
  -- terms may have come, and no symbols
  pub grown : Extends old.table new.table
  pub declared : declared_in new.table ≡ declared_in old.table
  -- each step of the log is right
  pub right : IfOk result (λ _. IsLogOf new.table new.search.log)
  -- the search fits together, also where it ends
  pub ready : IfOk result (λ _. SearchFits new.table new.search)
  -- what came into it came last
  pub appended : IfOk result (λ _. Appends old.search new.search)
  -- the budget has its limit
  pub limit : IfOk result (λ _. KeepsLimit old.search.budget new.search.budget)
  -- the search speaks of the same terms
  pub terms : IfOk result (λ _. new.search.terms ≡ old.search.terms)
  -- the theory goes with the table
  pub with : IfOk result (λ _. new.theory.goes_with new.table)
  -- how it ends is shown
  pub ends : IfOk result (EndsSearch (search_of old) (search_of new)
      (HasSaturated new.table new.search new.theory.view (HasAgreed new)))
  -- runs are paid
  pub came : (ts : List Term) (r : ℕ) → IsPaid (CameInLoop old ts) (paid_by old.table old.search r 0)
      → CameTo result (λ end. IsPaid (CameInLoop new ts) (paid_at new.table new.search r end))
      (IsPaid (StoppedInLoop new ts) (paid_by new.table new.search r (atoms_of new.table new.search)))
  -- a stop is shown
  pub stops : IfErr result
      (StopsBy (new.theory.running.may_overflow new.table (terms_watched new.table new.theory.view)))
  -- and leaves the search as one for the same terms
  pub stopped : IfErr result (OnStop (new.theory.goes_with new.table
      × HasStopped (search_of old) (search_of new) new.theory.view))

-- Lemmas of a theory came into the log, and the loop can go on with the literals that they imply.
pub record HasTaken (old new : LoopState) (implied : Bool) : Type 0 where
  -- it can go on
  pub goes_on : CanLoop new
  -- the search is for the same terms
  pub continues : Continues old.table new.table old.search new.search
  -- nothing is learned, and no exchange made
  pub budget : new.search.budget ≡ old.search.budget
  -- the theory holds and watches the same
  pub same : new.theory.view ≡ old.theory.view
  -- it came by the same runs
  pub came : (ts : List Term) (n : ℕ) → CameInLoop old ts n → CameInLoop new ts n
  -- and agrees to what it did
  pub agrees : HasAgreed old → HasAgreed new
  -- more literals hold, or the log alone is changed
  pub holds : MatchBool implied (length old.search.trail.literals < length new.search.trail.literals)
      (new.search ≡ record old.search { log = new.search.log })

-- What it came to that a theory may imply literals.
pub record TakesImplied (old new : LoopState) (result : Result Bool NoMemory) : Type 0 where
  -- terms may have come, and no symbols
  pub grown : Extends old.table new.table
  pub declared : declared_in new.table ≡ declared_in old.table
  -- what was taken in
  pub takes : IfOk result (HasTaken old new)

-- A theory holds the literals of a trail.
pub record FeedsTheory (ls : List Lit) (old new : Meaning) : Type 0 where
  -- what it holds
  pub holds : new.view ≡ record { held = ls; watched = old.view.watched; marks = old.view.marks }
  -- it goes with each table
  pub with : (t : TableView) → old.goes_with t → new.goes_with t
  -- it came by one run more for each atom of linear arithmetic that came
  pub came : (t : TableView) (ts : List Term) (n : ℕ) (es : List (ℕ × ℕ)) → old.goes_with t
      → old.running.came_by t ts n es → (m : ℕ) × new.running.came_by t ts m es
      × (m + counted_held t old.view.held ≡ n + counted_held t new.view.held)

-- A theory goes back with a trail.
pub record GoesBackWith (trail : TrailView) (old new : Meaning) : Type 0 where
  -- it goes on
  pub runs : KeepsRuns old new
  -- it keeps up with the trail
  pub keeps : KeepsUp new.view trail
  -- it holds its literals
  pub holds : new.view.held ≡ trail.literals
  -- and watches the same
  pub watched : new.view.watched ≡ old.view.watched

-- Terms are watched, or those before the one at which it stopped.
pub record WatchesAll (t : TableView) (ids : List TermId) (old new : Meaning)
    (result : Result (Unit {0}) Stop) : Type 0 where
  -- the theory goes with the table
  pub with : new.goes_with t
  -- what it watches
  pub watches : OnOk result (new.view ≡ record {
    held = old.view.held;
    watched = old.view.watched ++ ids;
    marks = old.view.marks;
  })
  -- it came by one run more for each atom of linear arithmetic that came
  pub came : (ts : List Term) (n : ℕ) (es : List (ℕ × ℕ)) → AreAmong (clause_at t ids) ts
      → old.running.came_by t ts n es → CameTo result
      (λ _. new.running.came_by t ts (n + counted_among t ids) es)
      (IsPaid (λ k. new.running.stopped_by t ts k es) (n + counted_among t ids))
  -- a stop is shown, over the term at which it came, too
  pub stops : IfErr result (λ stop. (k : ℕ) × (k < length ids)
      × (new.view.watched ≡ old.view.watched ++ take k ids)
      × StopsBy (new.running.may_overflow t (clause_at t (old.view.watched ++ take (k + 1) ids))) stop)

-- what trying literals comes to: the search can go on from level 0; or how it ends is shown, which is not saturated
abbrev pub TriesTo : (old new : LoopState) → Option End → Type 0
TriesTo old new None = CanLoop new × Continues old.table new.table old.search new.search
    × (new.search.trail.level ≡ 0)
TriesTo old new (Some end) = EndsSearch (search_of old) (search_of new) ⊥ end

-- and what is paid then
abbrev pub paid_tried : TableView → Search → (r : ℕ) → Option End → ℕ
paid_tried t x r None = paid_by t x r 0
paid_tried t x r (Some end) = paid_at t x r end

-- What trying so many literals came to, each of which is paid like one growth, where h of the held atoms were paid for.
pub record TriesAll (tries h : ℕ) (old new : LoopState) (result : Result (Option End) Stop) : Type 0 where
  -- terms may have come, and no symbols
  pub grown : Extends old.table new.table
  pub declared : declared_in new.table ≡ declared_in old.table
  -- each step of the log is right
  pub right : IfOk result (λ _. IsLogOf new.table new.search.log)
  -- the search fits together, also where it ends
  pub ready : IfOk result (λ _. SearchFits new.table new.search)
  -- what came into it came last
  pub appended : IfOk result (λ _. Appends old.search new.search)
  -- the budget has its limit
  pub limit : IfOk result (λ _. KeepsLimit old.search.budget new.search.budget)
  -- the search speaks of the same terms
  pub terms : IfOk result (λ _. new.search.terms ≡ old.search.terms)
  -- the theory goes with the table
  pub with : IfOk result (λ _. new.theory.goes_with new.table)
  -- it can go on, or how it ends is shown
  pub goes : IfOk result (TriesTo old new)
  -- runs are paid
  pub came : (ts : List Term) (r : ℕ) → IsPaid (CameInLoop old ts) (paid_by old.table old.search r h)
      → CameTo result (λ end. IsPaid (CameInLoop new ts) (paid_tried new.table new.search (r + tries) end))
      (IsPaid (StoppedInLoop new ts) (paid_by new.table new.search (r + tries) (atoms_of new.table new.search)))
  -- a stop is shown
  pub stops : IfErr result
      (StopsBy (new.theory.running.may_overflow new.table (terms_watched new.table new.theory.view)))
  -- and leaves the search as one for the same terms
  pub stopped : IfErr result (OnStop (new.theory.goes_with new.table
      × HasStopped (search_of old) (search_of new) new.theory.view))
