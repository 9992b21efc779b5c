use Rattle.sort_check.proofs.Parameters.{AreBound}
use Rattle.sort_check.proofs.defining.bind_parameters.Given as goal

abbrev pub invariant-sorts : goal.invariant-sorts
invariant-sorts l = AreBound l.fn.table l.table l.fn.names l.fn.sorts l.left l.bound

abbrev pub decreases-sorts : goal.decreases-sorts
decreases-sorts l = l.left
