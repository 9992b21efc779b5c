-- The premises of the numbers up to here have lost a literal.
use Rattle.std.proofs.Common.{drop}
use Rattle.clause_literals.specs.Literals.{lists}
use Rattle.clause_literals.proofs.Stepping.{IsLosing}
use Rattle.clause_literals.proofs.propagation.pass_on.Given as goal

abbrev pub invariant-loop-number : goal.invariant-loop-number
invariant-loop-number l = IsLosing (lists l.premises) l.losing l.fn.held l.held l.fn.left l.left (drop l.number-index l.losing)
