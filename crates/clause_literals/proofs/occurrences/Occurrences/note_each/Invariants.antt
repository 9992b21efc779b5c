-- The literals up to here are noted.
use Rattle.std.proofs.Common.{take}
use Rattle.clause_literals.specs.Occurring.{Notes}
use Rattle.clause_literals.proofs.occurrences.Occurrences.note_each.Given as goal

abbrev pub invariant-loop-l : goal.invariant-loop-l
invariant-loop-l l = Notes l.fn.self (take l.l-index l.clause) l.number l.self
