-- All up to here are false.
use Rattle.std.proofs.Common.{take}
use Rattle.clause_literals.specs.Statuses.{IsFalsified}
use Rattle.clause_store.proofs.literals.first_open.Given as goal

abbrev pub invariant-loop-l : goal.invariant-loop-l
invariant-loop-l l = IsFalsified l.trail.literals (take l.l-index l.clause)
