-- Literals may be divisors, and no other head but `-` and `/` makes one.
use Rattle.term_core.proofs.FactsOfNodes.{divisor_literal, no_divisor}
use Rattle.term_core.proofs.facts.is_divisor.Goals as goal

pub returns-in-Literal : goal.returns-in-Literal
returns-in-Literal c = divisor_literal c.args.table.now c.args.node.now.arguments.items c.args.node.now.head c.in-Literal.field-0 c.in-Literal.is

pub returns-in_default : goal.returns-in_default
returns-in_default c = no_divisor c.args.table.now c.args.node.now.arguments.items c.args.node.now.head c.in_default.not-Literal c.in_default.not-Minus c.in_default.not-Divide
