-- The arguments' numbers are those of the terms.
use Rattle.std.proofs.Common.{◌<◌, All, ap, sym, subst, ◌∙◌}
use Rattle.term_walks.specs.Orders.{numbers_of}
use Rattle.linear_form.proofs.NeededTerms.{needed_numbers, needed_before}
use Rattle.linear_form.proofs.needed.needed.Goals as goal

pub returns-clause-same : goal.returns-clause-same
returns-clause-same c =
    let t = c.args.table.now in
    ap numbers_of c.needed_by.ensures ∙ sym (needed_numbers t c.args.id.0 c.node.result.now c.node.ensures.means c.ids_are_unique.ensures c.node.ensures.placed.arguments)

pub returns-clause-before : goal.returns-clause-before
returns-clause-before c =
    let t = c.args.table.now in
    let n = c.node.result.now in
    subst (λ l. All (λ a. a < c.args.id.0) l) (sym (needed_numbers t c.args.id.0 n c.node.ensures.means c.ids_are_unique.ensures c.node.ensures.placed.arguments)) (needed_before c.args.id.0 n.head n.arguments.items c.node.ensures.before)
