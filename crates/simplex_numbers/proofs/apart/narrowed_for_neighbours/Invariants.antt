-- The number is above 0, stays or is such a half, and is clear of the neighbours that were passed.
use Rattle.std.proofs.Common.{◌≡◌, ◌⊎◌, map}
use Rattle.std.specs.List.{AllAdjacentBelow}
use Rattle.tableau.specs.Numbers.{number_of}
use Rattle.simplex_bounds.specs.Deltas.{pair_of}
use Rattle.spec_causes.specs.Causes.{IsHalfAmong}
use Rattle.simplex_numbers.specs.Values.{IsSmaller, IsClear}
use Rattle.simplex_numbers.proofs.apart.narrowed_for_neighbours.Given as goal

abbrev pub invariant-slacks : goal.invariant-slacks
invariant-slacks l = record {
  smaller : IsSmaller (number_of l.small) (number_of l.fn.e);
  one_of : (l.small ≡ l.fn.e) ⊎ IsHalfAmong (map pair_of l.values) (number_of l.small);
  clear : AllAdjacentBelow (λ x y. IsClear (number_of l.small) (pair_of x) (pair_of y)) l.values l.at;
}
