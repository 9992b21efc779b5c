-- The literals up to here.
use Rattle.std.proofs.Common.{take}
use Rattle.term_core.specs.Tables.{clause_at}
use Rattle.clause_literals.specs.Literals.{LiteralsMean}
use Rattle.clause_literals.proofs.literals.literals_of.Given as goal

abbrev pub invariant-loop-id : goal.invariant-loop-id
invariant-loop-id l = LiteralsMean l.table l.literals.items (clause_at l.table (take l.id-index l.clause))
