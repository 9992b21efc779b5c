-- The literals up to here were taken out.
use Rattle.std.proofs.Common.{◌+◌, ◌-◌, length}
use Rattle.clause_literals.specs.Literals.{lists}
use Rattle.clause_literals.specs.Propagation.{untouched}
use Rattle.clause_literals.proofs.Stepping.{IsGoing}
use Rattle.clause_literals.proofs.propagation.take_out_each.Given as goal

abbrev pub invariant-loop-done : goal.invariant-loop-done
invariant-loop-done l = IsGoing (lists l.premises) l.fn.held l.held l.left l.done

abbrev pub decreases-loop-done : goal.decreases-loop-done
decreases-loop-done l = (length l.held + untouched l.held (lists l.premises)) - l.done
