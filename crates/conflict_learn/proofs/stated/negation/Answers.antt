-- That the negation is placed, and that the table is as it was.
use Rattle.term_core.proofs.TermsExtend.{Extends-self}
use Rattle.term_clauses.proofs.Arguments.{not_fits}
use Rattle.conflict_learn.proofs.stated.negation.Goals as goal

pub returns-in_err-node-clause-grown : goal.returns-in_err-node-clause-grown
returns-in_err-node-clause-grown c = Extends-self c.args.table.now

pub put-requires : goal.put-requires
put-requires c = not_fits c.args.table.now c.in_ok-node.node c.args.id c.in_ok-node.ensures.0 c.in_ok-node.ensures.1 c.requires
