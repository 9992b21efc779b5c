-- The places up to here are of orders.
use Rattle.std.proofs.Common.{take}
use Rattle.order_cycles.specs.Cycles.{ArePlaces}
use Rattle.order_cycles.proofs.cycles.are_places.Given as goal

abbrev pub invariant-places : goal.invariant-places
invariant-places l = ArePlaces l.orders (take l.place-index l.places)
