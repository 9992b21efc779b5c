-- How a feasibility check ends.
use Rattle.std.specs.Prelude.{◌≡◌, ℕ, ◌⊎◌, Result, Ok, Err}
use Rattle.spec_tableaux.specs.LeastVariable.{RuleSays, done, crossed, stuck}
use Rattle.ratio128.specs.Meant.{overflow}
use Rattle.sat_budget.specs.Budgets.{BudgetView}
use Rattle.sat_budget.specs.declared.limits.Strain.{Strain}
use Rattle.sat_budget.specs.declared.limits.Stop.{Stop}
use Rattle.sat_budget.specs.declared.limits.Stop.TheVariants.{Strained}
use Rattle.sat_budget.specs.declared.limits.Stop.TheVariants as stops
use Rattle.tableau.specs.declared.stops.RowStop.{RowStop}
use Rattle.tableau.specs.declared.stops.RowStop.TheVariants as row_stops
use Rattle.spec_tableaux.specs.Points.{deltas, Ranges}
use Rattle.simplex_check.specs.Assignments.{AssignmentView, state_of, IsBasisOf}
use Rattle.spec_tableaux.specs.BoundsOverflows.{CheckOverflows}
use Rattle.spec_tableaux.specs.Runs.{UpdatesBelow, Ran, Stopped}
use Rattle.simplex_check.specs.declared.check.CheckOutcome.{CheckOutcome}
use Rattle.simplex_check.specs.declared.check.CheckOutcome.TheVariants.{Fine, Crossed, Conflict}

-- the overflow is one of a step at the assignment, whose basic variables and values come with it
abbrev pub IsOverflowOf : Ranges → AssignmentView → Strain → Type 0
IsOverflowOf ranges b s = CheckOverflows ranges (state_of b) (overflow s.wide) × IsBasisOf b s.basis

-- what a step tells that stopped at the assignment
abbrev pub StopsStep : Ranges → AssignmentView → Stop → Type 0
StopsStep ranges b (Strained s) = IsOverflowOf ranges b s
StopsStep ranges b stops.Memory = Unit {0}

-- the same where nonbasic variables were on the way from the assignment b to the bounds that they violated
abbrev pub StopsUpdating : Ranges → AssignmentView → AssignmentView → Stop → Type 0
StopsUpdating ranges b c stop = ((n : ℕ) × UpdatesBelow ranges n (state_of b) (state_of c)) × StopsStep ranges c stop

-- the stop of a row's change, with the basis of the assignment
abbrev pub IsStopOf : AssignmentView → RowStop → Stop → Type 0
IsStopOf b (row_stops.Wide w) (Strained s) = (s.wide ≡ w) × IsBasisOf b s.basis
IsStopOf b row_stops.Memory (Strained s) = ⊥
IsStopOf b stop stops.Memory = Unit {0}

-- what a check does to an assignment b and a budget old, by its result
abbrev pub EndsCheck : Ranges → AssignmentView → AssignmentView → BudgetView → BudgetView → Result CheckOutcome Stop
    → Type 0
EndsCheck ranges b c old new (Ok Fine) =
    Ran ranges (state_of b) (state_of c) old.exchanges new.exchanges × RuleSays deltas ranges (state_of c) done
EndsCheck ranges b c old new (Ok (Conflict y)) =
    Ran ranges (state_of b) (state_of c) old.exchanges new.exchanges × RuleSays deltas ranges (state_of c) (stuck y)
EndsCheck ranges b c old new (Ok (Crossed y)) = (c ≡ b) × (new ≡ old) × RuleSays deltas ranges (state_of b) (crossed y)
EndsCheck ranges b c old new (Err (Strained s)) =
    Stopped ranges (state_of b) (state_of c) old.exchanges new.exchanges × IsOverflowOf ranges c s
EndsCheck ranges b c old new (Err stops.Memory) =
    Ran ranges (state_of b) (state_of c) old.exchanges new.exchanges
    ⊎ Stopped ranges (state_of b) (state_of c) old.exchanges new.exchanges
