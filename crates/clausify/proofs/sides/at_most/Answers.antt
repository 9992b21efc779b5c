-- The table is as it was.
use Rattle.term_clauses.proofs.Arguments.{Widens-self}
use Rattle.clausify.proofs.sides.at_most.Goals as goal

pub returns-in_err-node-clause-wider : goal.returns-in_err-node-clause-wider
returns-in_err-node-clause-wider c = Widens-self c.args.table.now
