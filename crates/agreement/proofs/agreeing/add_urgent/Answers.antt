use Rattle.std.proofs.Common.{◌-◌, sym, arith}
use Rattle.agreement.proofs.Clashes.{pair_either, pairs_begin, pairs_more}
use Rattle.agreement.proofs.agreeing.add_urgent.Goals as goal

pub places-init : goal.places-init
places-init c = pairs_begin c.args.shared.now c.args.pairs.now.items

pub places-preserved : goal.places-preserved
places-preserved c =
    pairs_more c.args.shared.now _ _ _ c.in_order.result
    (pair_either c.args.shared.now c.index-shared-at.result c.index-shared-at-in-places.result c.in_order.result
    (c.places.at - 1, omega (arith, c.places-test.true), sym c.index-shared-at.is) (c.places.at, omega (arith, c.places-test.true), sym c.index-shared-at-in-places.is) c.if-concur.ensures c.in_order.ensures)
    c.in_ok-push.ensures.items c.places.invariant
