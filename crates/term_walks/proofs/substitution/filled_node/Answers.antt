-- The node with its arguments filled.
use Rattle.std.proofs.Common.{length, map, All, sym, ap, ◌∙◌, subst}
use Rattle.std.proofs.lemmas.Result.{IfOk-weaker}
use Rattle.spec_sorts.specs.Terms.{filled}
use Rattle.term_core.specs.declared.ids.TermId.{TermId}
use Rattle.term_core.specs.Tables.{head_meant, clause_at, term_at, AreIn}
use Rattle.term_walks.specs.Orders.{IsAmongFirst}
use Rattle.term_walks.proofs.Taking.{numbers_among_first}
use Rattle.term_walks.proofs.Filled.{node_filled}
use Rattle.term_walks.proofs.substitution.filled_node.Goals as goal

pub filled_all-requires-clause-there : goal.filled_all-requires-clause-there
filled_all-requires-clause-there c =
    let t = c.args.table.now in
    let node = c.node-node.result.now in
    subst (λ l. All (λ (id : TermId). IsAmongFirst c.args.order.now (length c.args.made.now) id.0) l) (sym c.as_slice.ensures)
    (numbers_among_first t c.args.order.now (length c.args.made.now) c.args.id.0 (head_meant t node.head) node.arguments.items c.ids_are_unique.ensures c.requires.ready c.node-node.ensures.means c.node-node.ensures.placed.arguments)

pub returns : goal.returns
returns c ts are fills =
    let t = c.args.table.now in
    let node = c.node-node.result.now in
    let all = c.in_ok-filled.ensures t ts are in
    IfOk-weaker c.new.result _ _
    (λ made h. node_filled t ts (term_at t c.args.id) node made c.node-node.ensures.means c.node-node.ensures.placed fills h.0
    (subst (AreIn t) (sym (h.1 ∙ c.as_slice-2.ensures.value)) all.0)
    (ap (clause_at t) (h.1 ∙ c.as_slice-2.ensures.value) ∙ all.1 ∙ ap (λ l. map (filled ts) (clause_at t l)) c.as_slice.ensures))
    c.new.ensures
