-- The table is as it was.
use Rattle.term_clauses.proofs.Arguments.{Widens-self}
use Rattle.term_clauses.proofs.signs.signed.Goals as goal

pub returns-then-positive-clause-wider : goal.returns-then-positive-clause-wider
returns-then-positive-clause-wider c = Widens-self c.args.table.now
