-- A literal is zero as a fraction, and no other head but `-` and `/` makes zero.
use Rattle.term_core.proofs.FactsOfNodes.{zero_literal, no_zero}
use Rattle.term_core.proofs.facts.is_zero_divisor.Goals as goal

pub returns-in-Literal : goal.returns-in-Literal
returns-in-Literal c = zero_literal c.args.table.now c.args.node.now.arguments.items c.args.node.now.head c.in-Literal.number c.is_zero.result c.in-Literal.is c.is_zero.ensures

pub returns-in_default : goal.returns-in_default
returns-in_default c = no_zero c.args.table.now c.args.node.now.arguments.items c.args.node.now.head c.in_default.not-Literal c.in_default.not-Minus c.in_default.not-Divide
