-- The numbers of the node name the arguments.
use Rattle.std.proofs.Common.{subst}
use Rattle.std.proofs.lemmas.Result.{on_ok_weaker}
use Rattle.term_core.specs.Tables.{head_meant}
use Rattle.term_walks.specs.Orders.{numbers_of, AddsNumbers}
use Rattle.term_walks.proofs.Named.{named}
use Rattle.term_walks.proofs.order.add_arguments.Goals as goal

pub returns : goal.returns
returns c =
    let t = c.args.table.now in
    let node = c.node.result.now in
    on_ok_weaker c.add_all.result
    (λ adds. (numbers_of node.arguments.items, named t c.args.id.0 (head_meant t node.head) node.arguments.items c.node.ensures.means c.node.ensures.before, subst (λ ids. AddsNumbers c.args.waiting.now.keys (numbers_of ids) c.add_all.new.waiting.keys) c.as_slice.ensures adds))
    c.add_all.ensures
