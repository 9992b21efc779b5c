-- The variables are the same, and as many.
use Rattle.std.proofs.Common.{◌≡◌, ◌-◌, length}
use Rattle.variable_order.proofs.sift.sift_down.Given as goal

abbrev pub invariant-down : goal.invariant-down
invariant-down l = record {
  members : l.places.members ≡ l.fn.places.members;
  count : length l.places.row ≡ length l.fn.places.row;
}

abbrev pub decreases-down : goal.decreases-down
decreases-down l = length l.places.row - l.at
