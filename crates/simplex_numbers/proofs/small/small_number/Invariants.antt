-- The number is above 0, and serves the variables that were passed; it is 1 or a half, and above none of these.
use Rattle.std.proofs.Common.{◌≡◌, ◌⊎◌, ◌<◌, ℕ, true, false}
use Rattle.spec_tableaux.specs.Fields.{is_positive}
use Rattle.spec_tableaux.specs.Numbers.{numbers}
use Rattle.tableau.specs.Numbers.{number_of}
use Rattle.simplex_bounds.specs.Held.{ranges_in}
use Rattle.spec_tableaux.specs.Points.{point_in}
use Rattle.spec_tableaux.specs.Halves.{is_less}
use Rattle.spec_causes.specs.Causes.{IsHalfIn}
use Rattle.simplex_numbers.specs.Values.{IsAboveNone, StaysOff}
use Rattle.simplex_numbers.proofs.small.small_number.Given as goal

abbrev pub invariant-loop-y : goal.invariant-loop-y
invariant-loop-y l = record {
  positive : is_positive numbers (number_of l.e) ≡ true;
  off : (y : ℕ) → y < l.y → StaysOff (number_of l.e) (ranges_in l.bounds.held y) (point_in l.assignment.values y);
  one_of : (number_of l.e ≡ numbers.one) ⊎ ((y : ℕ) × IsHalfIn (ranges_in l.bounds.held y) (point_in l.assignment.values y) (number_of l.e));
  most_one : is_less numbers.one (number_of l.e) ≡ false;
  most_each : (y : ℕ) → y < l.y → IsAboveNone (IsHalfIn (ranges_in l.bounds.held y) (point_in l.assignment.values y)) (number_of l.e);
}
