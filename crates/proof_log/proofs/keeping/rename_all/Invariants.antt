-- The numbers up to here are new ones.
use Rattle.std.proofs.Common.{◌≡◌, ◌++◌, map, take, drop}
use Rattle.proof_log.specs.Moving.{new_number}
use Rattle.proof_log.proofs.keeping.rename_all.Given as goal

abbrev pub invariant-steps : goal.invariant-steps
invariant-steps l = l.steps ≡ map (new_number l.from l.marks.items) (take l.k l.fn.steps) ++ drop l.k l.fn.steps
