-- The orders up to here are joined.
use Rattle.std.specs.List.{AllAdjacentBelow}
use Rattle.order_cycles.specs.Cycles.{Joins}
use Rattle.order_cycles.proofs.cycles.are_joined.Given as goal

abbrev pub invariant-places : goal.invariant-places
invariant-places l = AllAdjacentBelow (Joins l.orders) l.places l.at
