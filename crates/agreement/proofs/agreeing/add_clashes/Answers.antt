use Rattle.std.proofs.Common.{◌-◌, sym, arith}
use Rattle.agreement.proofs.Clashes.{pair_either, clashes_begin, clashes_more, clashes_same, clashes_all}
use Rattle.agreement.proofs.agreeing.add_clashes.Goals as goal

pub places-init : goal.places-init
places-init c = clashes_begin c.args.shared.now c.args.pairs.now.items

pub places-preserved-then-concur : goal.places-preserved-then-concur
places-preserved-then-concur c =
    clashes_same c.args.shared.now c.places.at _ _ c.index-shared-at.result c.index-shared-at-in-places.result (omega (arith, c.places.auto.at)) c.places-test.true c.index-shared-at.is
    c.index-shared-at-in-places.is c.if-concur.ensures c.places.invariant

pub places-preserved : goal.places-preserved
places-preserved c =
    clashes_more c.args.shared.now c.places.at _ _ _ c.in_order.result
    (pair_either c.args.shared.now c.index-shared-at.result c.index-shared-at-in-places.result c.in_order.result
    (c.places.at - 1, omega (arith, c.places-test.true), sym c.index-shared-at.is) (c.places.at, omega (arith, c.places-test.true), sym c.index-shared-at-in-places.is) c.if-concur.ensures c.in_order.ensures)
    c.in_ok-push.ensures.items c.places.invariant

pub returns : goal.returns
returns c = clashes_all c.args.shared.now c.places.at _ _ c.places-test.false c.places.invariant
