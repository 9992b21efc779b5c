-- All up to here are false, but for that one.
use Rattle.std.proofs.Common.{take}
use Rattle.search_loop.specs.Implying.{AreFalseBut}
use Rattle.search_loop.proofs.implying.are_false_but.Given as goal

abbrev pub invariant-loop-id : goal.invariant-loop-id
invariant-loop-id l = AreFalseBut l.table l.trail.literals (take l.id-index l.clause) l.one
