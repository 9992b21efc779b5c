-- Term by term.
use Rattle.std.proofs.Common.{length, ap, ◌∙◌, arith}
use Rattle.std.proofs.lemmas.List.{length_push}
use Rattle.search_loop.proofs.SearchPays.{among_first}
use Rattle.solve_core.proofs.SearchTried.{orders_skip, orders_more}
use Rattle.solve_core.proofs.choosing.denied_orders.Goals as goal

pub terms-init : goal.terms-init
terms-init c = omega (arith, ap length c.new-lits.ensures.items)

pub terms-preserved : goal.terms-preserved
terms-preserved c =
    let t = c.args.table.now in
    let ids = c.args.terms.now in
    let k = c.terms.id-index in
    let more = ap length c.in_ok-push.ensures.items ∙ length_push c.terms.lits.items _ in
    omega (arith, more, orders_more t ids k (length c.terms.lits.items) c.terms-test.true c.terms.invariant (c.is_order_of_choice.ensures c.if-not-is_order_of_choice.false))

pub terms-preserved-then-not-is_order_of_choice : goal.terms-preserved-then-not-is_order_of_choice
terms-preserved-then-not-is_order_of_choice c =
    orders_skip c.args.table.now c.args.terms.now c.terms.id-index (length c.terms.lits.items) c.terms-test.true c.terms.invariant

pub returns : goal.returns
returns c = omega (arith, c.terms.invariant, among_first c.args.table.now c.terms.id-index c.args.terms.now)
