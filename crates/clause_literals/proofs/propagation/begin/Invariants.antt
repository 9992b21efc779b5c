-- The premises up to here are tracked.
use Rattle.clause_literals.specs.Literals.{lists}
use Rattle.clause_literals.proofs.Stepping.{HasBegun}
use Rattle.clause_literals.proofs.propagation.begin.Given as goal

abbrev pub invariant-loop-premise : goal.invariant-loop-premise
invariant-loop-premise l = HasBegun (lists l.premises) l.fn.held l.held l.left.items l.premise-index
