use Rattle.std.proofs.Common.{◌≡◌, ◌<◌, ℕ, true, length}
use Rattle.simplex_bounds.specs.Held.{ranges_in}
use Rattle.simplex_check.specs.Assignments.{state_of}
use Rattle.simplex_check.specs.Suspects.{is_among}
use Rattle.simplex_check.proofs.UpdatingNonbasic.{UpdatingNonbasic}
use Rattle.simplex_check.proofs.assignment.RealAssignment.update_nonbasic.Given as goal

abbrev pub invariant-loop-y : goal.invariant-loop-y
invariant-loop-y l = record {
  tableau : l.self.tableau ≡ l.fn.self.tableau;
  known : (z : ℕ) → is_among z l.due ≡ true → z < l.bounds.variables;
  updating_nonbasic : (n : ℕ) × UpdatingNonbasic (ranges_in l.bounds.held) (state_of l.fn.self) (state_of l.self) n l.due l.suspects;
}

abbrev pub decreases-loop-y : goal.decreases-loop-y
decreases-loop-y l = length l.due
