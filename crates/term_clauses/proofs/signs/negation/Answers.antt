-- The table is as it was.
use Rattle.term_clauses.proofs.Arguments.{Widens-self, not_fits}
use Rattle.term_clauses.proofs.signs.negation.Goals as goal

pub returns-in_err-node-clause-wider : goal.returns-in_err-node-clause-wider
returns-in_err-node-clause-wider c = Widens-self c.args.table.now

pub put-requires : goal.put-requires
put-requires c =
    let t = c.args.table.now in
    let id = c.args.id in
    let made = c.in_ok-node.ensures in
    not_fits t c.in_ok-node.node id made.0 made.1 c.requires
