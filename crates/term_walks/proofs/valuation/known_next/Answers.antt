-- What is known of the arguments makes what is known of the term.
use Rattle.std.proofs.Common.{◌≡◌, length, All, sym, subst}
use Rattle.ratio128.specs.Meant.{overflow}
use Rattle.spec_sorts.specs.BoundedValues.{bounded_head}
use Rattle.term_core.specs.declared.ids.TermId.{TermId}
use Rattle.term_core.specs.Tables.{head_meant, clause_at, term_at}
use Rattle.term_walks.specs.Valuations.{values_meant, AreNamed}
use Rattle.term_walks.specs.Orders.{IsAmongFirst}
use Rattle.term_walks.specs.KnownValues.{known_meant}
use Rattle.term_walks.proofs.Taking.{numbers_among_first, value_made, wide_made}
use Rattle.term_walks.proofs.valuation.known_next.Goals as goal

pub take_values-requires-clause-there : goal.take_values-requires-clause-there
take_values-requires-clause-there c =
    let t = c.args.table.now in
    let node = c.node-node.result.now in
    subst (λ l. All (λ (id : TermId). IsAmongFirst c.args.order.now (length c.args.known.now) id.0) l) (sym c.as_slice.ensures)
    (numbers_among_first t c.args.order.now (length c.args.known.now) c.args.id.0 (head_meant t node.head) node.arguments.items c.ids_are_unique.ensures c.requires.ready c.node-node.ensures.means c.node-node.ensures.placed.arguments)

pub returns-in-Some-clause-exact : goal.returns-in-Some-clause-exact
returns-in-Some-clause-exact c i tells are =
    let t = c.args.table.now in
    let node = c.node-node.result.now in
    wide_made i (head_meant t node.head) (clause_at t node.arguments.items) (term_at t c.args.id) (overflow c.in-Some.wide) c.node-node.ensures.placed.sorts c.node-node.ensures.means
    (rw (c.in-Some.is, c.as_slice.ensures) at c.in_ok-wide.ensures.exact t i are)

pub returns-in-None-clause-exact : goal.returns-in-None-clause-exact
returns-in-None-clause-exact c i tells are =
    let t = c.args.table.now in
    let node = c.node-node.result.now in
    value_made i (head_meant t node.head) (clause_at t node.arguments.items) (term_at t c.args.id) (values_meant t.sorts c.take_values.new.taken.items) (known_meant t.sorts c.known_by_head.result)
    c.node-node.ensures.placed.sorts c.node-node.ensures.means
    (rw (c.in-None.is, c.as_slice.ensures) at c.in_ok-wide.ensures.exact t i are)
    (subst (λ l. AreNamed t.sorts l → known_meant t.sorts c.known_by_head.result ≡ bounded_head i (head_meant t node.head) (values_meant t.sorts l)) c.as_slice-in-None.ensures.value
    (c.known_by_head.ensures.exact t i tells c.node-node.ensures.placed.head) (c.in_ok-wide.ensures.named t.sorts c.requires.named))

pub returns-in-None-clause-named : goal.returns-in-None-clause-named
returns-in-None-clause-named c =
    let t = c.args.table.now in
    c.known_by_head.ensures.named t c.requires.interprets (subst (AreNamed t.sorts) (sym c.as_slice-in-None.ensures.value) (c.in_ok-wide.ensures.named t.sorts c.requires.named))
