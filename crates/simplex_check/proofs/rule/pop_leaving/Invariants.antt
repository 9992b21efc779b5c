use Rattle.std.proofs.Common.{length}
use Rattle.simplex_bounds.specs.Held.{ranges_in}
use Rattle.simplex_check.specs.Assignments.{state_of}
use Rattle.simplex_check.specs.Suspects.{Suspect}
use Rattle.simplex_check.proofs.rule.pop_leaving.Given as goal

abbrev pub invariant-loop-y : goal.invariant-loop-y
invariant-loop-y l = Suspect (ranges_in l.bounds.held) (state_of l.assignment) l.suspects

abbrev pub decreases-loop-y : goal.decreases-loop-y
decreases-loop-y l = length l.suspects
