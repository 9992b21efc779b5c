-- The literals up to here.
use Rattle.std.proofs.Common.{take}
use Rattle.clause_literals.specs.Literals.{SameLits}
use Rattle.clause_literals.proofs.distinct.distinct.Given as goal

abbrev pub invariant-loop-l : goal.invariant-loop-l
invariant-loop-l l = SameLits l.taken.keys (take l.l-index l.clause)
