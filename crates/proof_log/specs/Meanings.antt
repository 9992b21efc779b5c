-- What a theory means, and what each of its calls does to that.
use Rattle.std.specs.Prelude.{◌≡◌, ℕ, List, [], Result, Ok, Err, MatchResult, IfErr, Contains, Vec}
use Rattle.std.specs.declared.alloc.Global.{Global}
use Rattle.no_memory.specs.declared.NoMemory.{NoMemory}
use Rattle.spec_sorts.specs.Terms.{Term}
use Rattle.spec_sorts.specs.Literals.{Literal}
use Rattle.spec_causes.specs.Counts.{counted}
use Rattle.term_core.specs.declared.ids.TermId.{TermId}
use Rattle.term_core.specs.declared.ids.Lit.{Lit}
use Rattle.term_core.specs.Tables.{TableView, Extends, declared_in, term_at}
use Rattle.sat_budget.specs.declared.limits.Stop.{Stop}
use Rattle.sat_budget.specs.declared.limits.Strain.{Strain}
use Rattle.sat_budget.specs.Budgets.{BudgetView, Spends, StopsBy}
use Rattle.proof_log.specs.Logs.{AreStepsOf}
use Rattle.proof_log.specs.declared.premises.StepId.{StepId}
use Rattle.proof_log.specs.declared.theory.Verdict.{Verdict}
use Rattle.proof_log.specs.Theories.{TheoryView, with_held, with_watched, with_mark, gone_back, terms_watched}
use Rattle.proof_log.specs.Theories.{literals_held, Derived, DerivesLemmas, Checks, CameTo, paid_after}

-- How exchanges led a theory to what it is: what is told where a check is answered `unknown`.
pub record Running : Type 1 where
  -- What it is over a table came of terms, among which are all that it ever watched, and of these exchanges, oldest
  -- first. Fewer runs made them than so many; or no more, and a check now would make none.
  pub came_by : TableView → List Term → ℕ → List (ℕ × ℕ) → Type 0
  -- What it is over a table, where an overflow stopped it, came of terms and of exchanges, of which the last may be
  -- kept and not made. No more runs made them than so many.
  pub stopped_by : TableView → List Term → ℕ → List (ℕ × ℕ) → Type 0
  -- what shows that a stop by an overflow is one, over a table and the watched terms
  pub may_overflow : TableView → List Term → Strain → Type 0

-- a theory makes no exchange, and no overflow stops it
abbrev pub no_runs : Running
no_runs = record { came_by = λ _ _ _ es. es ≡ []; stopped_by = λ _ _ _ _. Unit {0}; may_overflow = λ _ _ _. ⊥ }

-- What a theory means.
pub record Meaning : Type 1 where
  -- what it holds and watches, and what it did at each mark
  pub view : TheoryView
  -- what it keeps of the terms that it watches is right over this table
  pub goes_with : TableView → Type 0
  -- what a check shows that answers `Fine`, of the watched terms and the held literals
  pub agrees : List Term → List Literal → Type 0
  -- what a check shows of them that answers `Clash`
  pub refuses : List Term → List Literal → Type 0
  -- how exchanges led it here
  pub running : Running

-- What is so of each theory.
pub record IsLawful (m : Meaning) : Type 0 where
  -- what goes with a table goes with one that has more
  pub grown : (t u : TableView) → Extends t u → m.goes_with t → m.goes_with u
  -- what came of terms over a table did over one that has more
  pub came_grown : (t u : TableView) → Extends t u → m.goes_with t → (ts : List Term) (n : ℕ) (es : List (ℕ × ℕ))
      → m.running.came_by t ts n es → m.running.came_by u ts n es
  -- nothing both agrees and is refused
  pub exact : (ts : List Term) (ls : List Literal) → m.agrees ts ls → m.refuses ts ls → ⊥

-- A term more is watched, or a stop leaves those that were.
pub record Watches (t : TableView) (id : TermId) (old new : Meaning) (result : Result (Unit {0}) Stop) : Type 0 where
  -- it goes with the table
  pub with : new.goes_with t
  -- what it watches
  pub watches : MatchResult result (λ _. new.view ≡ with_watched old.view id) (λ _. new.view ≡ old.view)
  -- it came by as many runs, or by one more where the term is an atom of linear arithmetic
  pub came : (ts : List Term) (n : ℕ) (es : List (ℕ × ℕ)) → Contains ts (term_at t id)
      → old.running.came_by t ts n es → CameTo result (λ _. new.running.came_by t ts (counted (term_at t id) n) es)
      (new.running.stopped_by t ts n es)
  -- a stop is shown, over the term, too
  pub stops : IfErr result (StopsBy (new.running.may_overflow t (terms_watched t (with_watched old.view id))))

-- A literal more is held.
pub record Holds (lit : Lit) (old new : Meaning) : Type 0 where
  -- it goes with each table
  pub with : (t : TableView) → old.goes_with t → new.goes_with t
  -- it came by as many runs, or by one more where the atom is one of linear arithmetic
  pub came : (t : TableView) (ts : List Term) (n : ℕ) (es : List (ℕ × ℕ)) → old.goes_with t
      → old.running.came_by t ts n es → new.running.came_by t ts (counted (term_at t lit.term) n) es
  -- what it holds
  pub holds : new.view ≡ with_held old.view lit

-- What a check may change: a theory, table and log, and the budget.
pub record CheckState : Type 1 where
  -- the theory
  pub theory : Meaning
  -- table and log
  pub derived : Derived
  -- the budget
  pub budget : BudgetView

-- a theory over a table with a log, and a budget
abbrev pub check_state : Meaning → Derived → BudgetView → CheckState
check_state m d budget = record { theory = m; derived = d; budget = budget }

-- What a check of a theory came to.
pub record AnswersCheck (old new : CheckState) (result : Result Verdict Stop) : Type 0 where
  -- it goes with the table
  pub with : new.theory.goes_with new.derived.table
  -- it holds and watches the same
  pub same : new.theory.view ≡ old.theory.view
  -- the budget may keep further exchanges
  pub budget : Spends old.budget new.budget
  -- what is answered is shown
  pub checks : Checks (new.theory.agrees (terms_watched old.derived.table old.theory.view)
      (literals_held old.derived.table old.theory.view))
      (old.theory.refuses (terms_watched old.derived.table old.theory.view)
      (literals_held old.derived.table old.theory.view)) old.theory.view old.derived result new.derived
  -- it came by the exchanges that the budget keeps, in as many runs, or in one more after a clash
  pub came : (ts : List Term) (n : ℕ) → old.theory.running.came_by old.derived.table ts n old.budget.exchanges
      → CameTo result
      (λ verdict. new.theory.running.came_by new.derived.table ts (paid_after verdict n) new.budget.exchanges)
      (new.theory.running.stopped_by new.derived.table ts n new.budget.exchanges)
  -- a stop is shown
  pub stops : IfErr result (StopsBy
      (new.theory.running.may_overflow new.derived.table (terms_watched old.derived.table old.theory.view)))

-- Lemmas came that may imply literals, and the theory is as it was.
pub record AddsLemmas (old new : Meaning) (before after : Derived) : Type 0 where
  -- it goes with the table
  pub with : new.goes_with after.table
  -- it holds and watches the same
  pub same : new.view ≡ old.view
  -- what came are lemmas
  pub derives : DerivesLemmas (terms_watched before.table old.view) before after
  -- it came by the same runs
  pub came : (ts : List Term) (n : ℕ) (es : List (ℕ × ℕ)) → old.running.came_by before.table ts n es
      → new.running.came_by after.table ts n es
  -- and agrees to what it did
  pub agrees : (ts : List Term) (ls : List Literal) → old.agrees ts ls → new.agrees ts ls

-- what a call does that lists the steps of lemmas which may imply literals; where memory runs out, terms may have come,
-- and it holds and watches the same
abbrev pub Implies : Meaning → Meaning → Derived → Derived → Result (Vec StepId Global) NoMemory → Type 0
Implies old new before after (Ok steps) = AddsLemmas old new before after × AreStepsOf after.log steps.items
Implies old new before after (Err no_memory) = (new.view ≡ old.view) × Extends before.table after.table
    × (declared_in after.table ≡ declared_in before.table)

-- It goes with each table that it went with, and came by the same runs.
pub record KeepsRuns (old new : Meaning) : Type 0 where
  -- it goes with each table
  pub with : (t : TableView) → old.goes_with t → new.goes_with t
  -- it came by the same
  pub came : (t : TableView) (ts : List Term) (n : ℕ) (es : List (ℕ × ℕ)) → old.running.came_by t ts n es
      → new.running.came_by t ts n es

-- A mark is set, or all is as it was.
pub record Marks (old new : Meaning) (result : Result (Unit {0}) NoMemory) : Type 0 where
  -- it goes on
  pub keeps : KeepsRuns old new
  -- what there was is marked
  pub marks : MatchResult result (λ _. new.view ≡ with_mark old.view) (λ _. new.view ≡ old.view)

-- A theory goes back over so many marks.
pub record GoesBack (marks : ℕ) (old new : Meaning) : Type 0 where
  -- it goes on
  pub keeps : KeepsRuns old new
  -- what there was is there again
  pub back : new.view ≡ gone_back marks old.view
