-- What the premises after have come to.
use Rattle.std.proofs.Common.{drop}
use Rattle.clause_literals.specs.Literals.{lists}
use Rattle.clause_literals.proofs.Passes.{SoFar}
use Rattle.clause_literals.proofs.scan.pass_over.Given as goal

abbrev pub invariant-loop-at : goal.invariant-loop-at
invariant-loop-at l = SoFar (lists l.premises) (drop l.at (lists l.premises)) l.fn.held l.held l.added
