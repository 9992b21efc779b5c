-- All up to here are false, but for that one.
use Rattle.std.proofs.Common.{take}
use Rattle.clause_store.specs.Watching.{AreFalseBut}
use Rattle.clause_store.proofs.literals.find_open.Given as goal

abbrev pub invariant-loop-l : goal.invariant-loop-l
invariant-loop-l l = AreFalseBut l.trail.literals (take l.l-index l.clause) l.other
