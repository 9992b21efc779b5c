-- Values keep the bounds once a check finds nothing wrong.
use Rattle.std.proofs.Common.{Ok}
use Rattle.spec_tableaux.specs.Ranges.{Meets}
use Rattle.spec_tableaux.proofs.Steps.{done_meets}
use Rattle.sat_budget.specs.Budgets.{BudgetView}
use Rattle.spec_tableaux.specs.Points.{deltas, point_in, Ranges}
use Rattle.simplex_check.specs.Assignments.{AssignmentView, state_of}
use Rattle.simplex_check.specs.Ends.{EndsCheck}
use Rattle.simplex_check.specs.declared.check.CheckOutcome.TheVariants.{Fine}
use Rattle.simplex_explain.proofs.Holding.{ran_updated}

pub checked_meets : (ranges : Ranges) (b c : AssignmentView) (old new : BudgetView) → EndsCheck ranges b c old new (Ok Fine) → Meets deltas c.tableau.rows ranges (point_in c.values)
checked_meets ranges b c old new e = done_meets deltas ranges (state_of c) (ran_updated ranges (state_of b) (state_of c) old.exchanges new.exchanges e.1.0 e.0) e.1
