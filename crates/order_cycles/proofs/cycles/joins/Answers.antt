-- Both places are of orders, so each default gives the same.
use Rattle.std.proofs.Common.{◌∙◌, ap, arith}
use Rattle.std.proofs.lemmas.List.{get_or_default}
use Rattle.order_cycles.specs.declared.order.Order.{Order}
use Rattle.order_cycles.proofs.cycles.joins.Goals as goal

pub returns : goal.returns
returns c e d =
    let orders = c.args.orders.now in
    ap (λ (o : Order). o.upper) (get_or_default orders c.args.first d c.index-orders-first.result (omega (arith, c.if-first-orders.false)))
    ∙ c.if-orders-first.false
    ∙ ap (λ (o : Order). o.lower) (get_or_default orders c.args.second c.index-orders-second.result d (omega (arith, c.if-second-orders.false)))
