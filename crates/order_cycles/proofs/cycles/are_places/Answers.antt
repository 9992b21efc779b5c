-- One place more is of an order.
use Rattle.std.proofs.Common.{◌<◌, ℕ, List, length, subst}
use Rattle.std.proofs.lemmas.List.{take_all}
use Rattle.std.proofs.lemmas.List.Elements.{All-more}
use Rattle.order_cycles.specs.Cycles.{ArePlaces}
use Rattle.order_cycles.proofs.cycles.are_places.Goals as goal

pub places-preserved : goal.places-preserved
places-preserved c =
    All-more (λ (k : ℕ). k < length c.args.orders.now) c.args.places.now c.places.place-index 0 c.places-test.true c.places.invariant (c.is_place.ensures c.if-not-is_place.false)

pub returns : goal.returns
returns c _ =
    subst (λ (ks : List ℕ). ArePlaces c.args.orders.now ks) (take_all c.places.place-index c.args.places.now c.places-test.false) c.places.invariant
