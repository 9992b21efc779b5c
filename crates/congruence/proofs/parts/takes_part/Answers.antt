-- Head by head.
use Rattle.std.proofs.Common.{sym, ap, ◌∙◌}
use Rattle.spec_equality.specs.Congruence.{takes_part}
use Rattle.term_core.specs.declared.nodes.Head.TheVariants as heads
use Rattle.term_core.specs.Tables.{shape_of}
use Rattle.congruence.proofs.Taking.{by_head, others_part}
use Rattle.congruence.proofs.parts.takes_part.Goals as goal

pub returns-in-And : goal.returns-in-And
returns-in-And c = by_head c.args.table.now (shape_of c.node-node.result.now) heads.And c.in-And.is ∙ sym (ap takes_part c.node-node.ensures.means)

pub returns-in-Or : goal.returns-in-Or
returns-in-Or c = by_head c.args.table.now (shape_of c.node-node.result.now) heads.Or c.in-Or.is ∙ sym (ap takes_part c.node-node.ensures.means)

pub returns-in-Xor : goal.returns-in-Xor
returns-in-Xor c = by_head c.args.table.now (shape_of c.node-node.result.now) heads.Xor c.in-Xor.is ∙ sym (ap takes_part c.node-node.ensures.means)

pub returns-in-Implies : goal.returns-in-Implies
returns-in-Implies c = by_head c.args.table.now (shape_of c.node-node.result.now) heads.Implies c.in-Implies.is ∙ sym (ap takes_part c.node-node.ensures.means)

pub returns-in-Equal : goal.returns-in-Equal
returns-in-Equal c = c.has_elements.ensures ∙ by_head c.args.table.now (shape_of c.node-node.result.now) heads.Equal c.in-Equal.is ∙ sym (ap takes_part c.node-node.ensures.means)

pub returns-in-Ite : goal.returns-in-Ite
returns-in-Ite c = c.has_elements-in-Ite.ensures ∙ by_head c.args.table.now (shape_of c.node-node.result.now) heads.Ite c.in-Ite.is ∙ sym (ap takes_part c.node-node.ensures.means)

pub returns-in_default : goal.returns-in_default
returns-in_default c =
    others_part c.args.table.now (shape_of c.node-node.result.now) c.node-node.result.now.head c.in_default.not-And c.in_default.not-Or c.in_default.not-Xor c.in_default.not-Implies c.in_default.not-Equal c.in_default.not-Ite
    ∙ sym (ap takes_part c.node-node.ensures.means)
