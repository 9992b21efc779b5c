-- The order is a formula.
use Rattle.term_clauses.proofs.Arguments.{Widens-trans}
use Rattle.clausify.proofs.Equalities.{order_in}
use Rattle.clausify.proofs.sides.not_at_most.Goals as goal

pub signed-requires : goal.signed-requires
signed-requires c = order_in c.args.table.now c.at_most.new.table c.at_most.ensures.wider c.args.a c.args.b c.in_ok-order.order c.requires.left c.requires.right c.in_ok-order.ensures.means

pub returns-clause-wider : goal.returns-clause-wider
returns-clause-wider c = Widens-trans c.args.table.now c.at_most.new.table c.signed.new.table c.at_most.ensures.wider c.signed.ensures.wider
