use Rattle.std.proofs.Common.{◌≡◌, ℕ, length, map}
use Rattle.simplex_bounds.specs.Deltas.{pair_of}
use Rattle.spec_tableaux.specs.Points.{point_in}
use Rattle.simplex_check.specs.Changes.{ChangesAreBelow, written}
use Rattle.simplex_check.proofs.changes.write.Given as goal

abbrev pub invariant-loop-change : goal.invariant-loop-change
invariant-loop-change l = record {
  known : ChangesAreBelow (length l.values.items) l.rest;
  lengths : length l.values.items ≡ length l.fn.values.items;
  point : (y : ℕ) → written l.rest (point_in (map pair_of l.values.items)) y ≡ written l.fn.changes (point_in (map pair_of l.fn.values.items)) y;
}

abbrev pub decreases-loop-change : goal.decreases-loop-change
decreases-loop-change l = length l.rest
