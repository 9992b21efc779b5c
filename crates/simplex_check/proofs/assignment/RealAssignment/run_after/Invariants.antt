use Rattle.std.proofs.Common.{◌≡◌, ◌≤◌, ◌<◌, ◌+◌, ◌^◌, ◌-◌, ℕ, false, length}
use Rattle.spec_tableaux.specs.Ranges.{is_crossed}
use Rattle.spec_tableaux.specs.Points.{deltas}
use Rattle.tableau.specs.Views.{IsTableau}
use Rattle.simplex_bounds.specs.Held.{ranges_in}
use Rattle.simplex_check.specs.Assignments.{state_of}
use Rattle.spec_tableaux.specs.Runs.{Ran}
use Rattle.simplex_check.specs.Suspects.{Suspect}
use Rattle.simplex_check.proofs.assignment.RealAssignment.run_after.Given as goal

abbrev pub invariant-steps : goal.invariant-steps
invariant-steps l = record {
  ran : Ran (ranges_in l.bounds.held) (state_of l.fn.self) (state_of l.self) l.fn.budget.exchanges l.budget.exchanges;
  start : IsTableau l.fn.self.tableau;
  variables : l.self.tableau.variables ≡ l.fn.self.tableau.variables;
  listed : l.self.tableau.listed ≡ l.fn.self.tableau.listed;
  budget : l.budget ≡ record l.fn.budget { exchanges = l.budget.exchanges };
  suspect : Suspect (ranges_in l.bounds.held) (state_of l.self) l.suspects;
  uncrossed : (y : ℕ) → is_crossed deltas (ranges_in l.bounds.held) y ≡ false;
  more : length l.fn.budget.exchanges ≤ length l.budget.exchanges;
  few : length l.budget.exchanges < length l.fn.budget.exchanges + 3 ^ l.fn.self.tableau.variables;
}

abbrev pub decreases-steps : goal.decreases-steps
decreases-steps l = 3 ^ l.fn.self.tableau.variables - (length l.budget.exchanges - length l.fn.budget.exchanges)
