-- What is still used is at its place, and the places that are left are those of the terms that are left, and of the root.
use Rattle.std.proofs.Common.{◌≡◌, ◌++◌, ◌∷◌, [], length, drop}
use Rattle.std.specs.List.{flat_map}
use Rattle.linear_form.specs.Walks.{needed_at, numbers_at, HoldsUsed}
use Rattle.linear_form.proofs.walk.walk.Given as goal

abbrev pub invariant-terms : goal.invariant-terms
invariant-terms l = record {
  len : length l.slots.items ≡ l.at;
  ready : HoldsUsed l.table l.plan.order.items l.plan.last.items l.slots.items l.tick;
  left : drop l.tick (numbers_at l.plan.order.items l.plan.uses.items) ≡ flat_map (needed_at l.table) (drop l.at l.plan.order.items) ++ l.fn.id.0 ∷ [];
}
