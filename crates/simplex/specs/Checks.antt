-- What a check of the rows and bounds found, the reasons for it, and what is answered to it.
use Rattle.std.specs.Prelude.{◌≡◌, true, List, All, Result, Ok, Err}
use Rattle.spec_numbers.specs.Bounds.{Overflow}
use Rattle.spec_tableaux.specs.Rows.{row_of}
use Rattle.spec_tableaux.specs.Ranges.{Meets}
use Rattle.spec_tableaux.specs.LeastVariable.{RuleSays, IsNonbasicFeasible, goes_up, crossed, stuck}
use Rattle.term_core.specs.declared.ids.Lit.{Lit}
use Rattle.term_core.specs.Tables.{TableView, IsIn}
use Rattle.sat_budget.specs.declared.limits.Stop.{Stop}
use Rattle.proof_log.specs.declared.theory.Verdict.{Verdict}
use Rattle.proof_log.specs.declared.theory.Verdict.TheVariants as verdicts
use Rattle.spec_tableaux.specs.Points.{deltas, point_in}
use Rattle.simplex_bounds.specs.Held.{ranges_in}
use Rattle.simplex_check.specs.Assignments.{state_of}
use Rattle.simplex_check.specs.declared.check.CheckOutcome.{CheckOutcome}
use Rattle.simplex_check.specs.declared.check.CheckOutcome.TheVariants.{Fine, Crossed, Conflict}
use Rattle.simplex_explain.specs.declared.weighted.Weighted.{Weighted}
use Rattle.spec_causes.specs.Reasons.{with_basic, unit_entries}
use Rattle.simplex_explain.specs.BoundReasons.{footing, AreReasonsFor, OverflowsReasons}
use Rattle.simplex.specs.Views.{SimplexView, IsOf}

-- What is held, over a table.
pub record Case : Type 0 where
  -- the table
  pub table : TableView
  -- what is held, with rows, values and bounds
  pub simplex : SimplexView

-- What is kept is right over a table, and the terms that are watched and held are of the table.
pub record Suits (v : SimplexView) (t : TableView) : Type 0 where
  -- what is kept
  pub is : IsOf v t
  -- the watched terms
  pub there : All (IsIn t) v.theory.watched
  -- the atoms of held literals
  pub held : All (λ (l : Lit). IsIn t l.term) v.theory.held

-- the values solve the rows and keep the bounds that are held
abbrev pub KeepsBounds : SimplexView → Type 0
KeepsBounds v = Meets deltas v.assignment.tableau.rows (ranges_in v.bounds.held) (point_in v.assignment.values)

-- what a check found is wrong at the rows, the values and the bounds: those of a variable cross; or a basic variable is
-- stuck, and nonbasic ones keep their bounds
abbrev pub Found : SimplexView → CheckOutcome → Type 0
Found v Fine = ⊥
Found v (Crossed y) = RuleSays deltas (ranges_in v.bounds.held) (state_of v.assignment) (crossed y)
Found v (Conflict b) =
    IsNonbasicFeasible deltas (ranges_in v.bounds.held) (state_of v.assignment)
    × RuleSays deltas (ranges_in v.bounds.held) (state_of v.assignment) (stuck b)

-- a weight of the reasons for what was found comes to the overflow
abbrev pub OverflowsFound : SimplexView → CheckOutcome → Overflow → Type 0
OverflowsFound v Fine o = ⊥
OverflowsFound v (Crossed y) o = OverflowsReasons (footing v.atoms v.bounds) true (with_basic y (unit_entries y)) o
OverflowsFound v (Conflict b) o =
    OverflowsReasons (footing v.atoms v.bounds) (goes_up deltas (ranges_in v.bounds.held) (state_of v.assignment) b)
    (with_basic b (row_of b v.assignment.tableau.rows).entries) o

-- these are the reasons for what was found
abbrev pub AreReasonsOf : SimplexView → CheckOutcome → List Weighted → Type 0
AreReasonsOf v Fine rs = ⊥
AreReasonsOf v (Crossed y) rs = AreReasonsFor (footing v.atoms v.bounds) true (with_basic y (unit_entries y)) rs
AreReasonsOf v (Conflict b) rs =
    AreReasonsFor (footing v.atoms v.bounds) (goes_up deltas (ranges_in v.bounds.held) (state_of v.assignment) b)
    (with_basic b (row_of b v.assignment.tableau.rows).entries) rs

-- what is answered to what a check of the rows found: that nothing is wrong, where it found nothing wrong; something
-- else, where it did; and its own stop
abbrev pub AnswersOutcome : Result CheckOutcome Stop → Result Verdict Stop → Type 0
AnswersOutcome (Ok Fine) result = result ≡ Ok verdicts.Fine
AnswersOutcome (Ok (Crossed y)) result = result ≡ Ok verdicts.Fine → ⊥
AnswersOutcome (Ok (Conflict b)) result = result ≡ Ok verdicts.Fine → ⊥
AnswersOutcome (Err stop) result = result ≡ Err stop
