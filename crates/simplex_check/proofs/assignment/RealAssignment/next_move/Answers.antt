use Rattle.spec_tableaux.specs.Points.{deltas}
use Rattle.spec_tableaux.proofs.Repeats.{returns_never}
use Rattle.simplex_bounds.specs.Held.{ranges_in}
use Rattle.simplex_check.specs.Assignments.{state_of}
use Rattle.simplex_check.specs.Moves.{rule_move}
use Rattle.simplex_check.proofs.Points.{deltas_are_space, deltas_are_ordered, delta_one, one_tells_apart}
use Rattle.simplex_check.proofs.assignment.RealAssignment.next_move.Goals as goal

pub returns-clause-never_returns : goal.returns-clause-never_returns
returns-clause-never_returns c =
    returns_never deltas deltas_are_space deltas_are_ordered delta_one one_tells_apart (ranges_in c.args.bounds.now.held) (state_of c.args.self.now) (rule_move c.move_of.result) c.move_of.ensures.says
