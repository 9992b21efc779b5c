-- A term is constant where its head keeps it so, and each of its arguments is constant.
use Rattle.std.proofs.Common.{sym, ap, ◌∙◌}
use Rattle.spec_sorts.specs.Theory.{is_constant, each_passes}
use Rattle.term_core.specs.Tables.{clause_at}
use Rattle.term_core.proofs.FactsOfNodes.{constant_no, constant_as}
use Rattle.term_core.proofs.facts.is_constant.Goals as goal

pub returns-then-not-keeps_constant : goal.returns-then-not-keeps_constant
returns-then-not-keeps_constant c =
    constant_no c.args.table.now c.args.node.now.arguments.items c.args.node.now.head (sym (c.if-not-keeps_constant.ensures c.args.table.now.sorts c.args.table.now.symbols))

pub returns : goal.returns
returns c =
    constant_as c.args.table.now c.args.node.now.arguments.items c.args.node.now.head c.are_constant.result (sym (c.if-not-keeps_constant.ensures c.args.table.now.sorts c.args.table.now.symbols))
    (c.are_constant.ensures ∙ ap (λ ids. each_passes is_constant (clause_at c.args.table.now ids)) c.as_slice-arguments.ensures)
