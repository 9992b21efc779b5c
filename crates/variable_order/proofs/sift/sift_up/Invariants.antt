-- The variables are the same, and the place is one of the row's.
use Rattle.std.proofs.Common.{◌≡◌, ◌<◌, length}
use Rattle.variable_order.proofs.sift.sift_up.Given as goal

abbrev pub invariant-up : goal.invariant-up
invariant-up l = record {
  members : l.places.members ≡ l.fn.places.members;
  there : l.at < length l.places.row;
}

abbrev pub decreases-up : goal.decreases-up
decreases-up l = l.at
