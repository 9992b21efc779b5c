-- What computes numbers of terms comes to the overflow of one operation.
use Rattle.std.proofs.Common.{ℕ, List, inl, inr}
use Rattle.std.specs.Prelude.{Option, Some, None}
use Rattle.spec_numbers.specs.Bounds.{Overflow}
use Rattle.spec_tableaux.specs.Spaces.{Pair}
use Rattle.spec_tableaux.specs.Ranges.{Range}
use Rattle.spec_tableaux.specs.Numbers.{Number}
use Rattle.spec_simplex.specs.Overflows.{IsOverflow}
use Rattle.spec_simplex.proofs.Operations.{difference_overflows, quotient_overflows}
use Rattle.spec_tableaux.specs.Points.{Ranges}
use Rattle.spec_tableaux.specs.Halves.{OverflowsHalf, bases, tilts, quotient, half, OverflowsLower, OverflowsUpper, OverflowsRange, OverflowsNumber, bounds, values}
use Rattle.spec_causes.specs.TermTableau.{TermTableau}
use Rattle.spec_causes.specs.Causes.{OverflowsValueAt}
use Rattle.spec_causes.proofs.DeltaFaults.{delta_value_overflows}

half_overflows : (x y : Pair Number) (o : Overflow) → OverflowsHalf x y o → IsOverflow o
half_overflows x y o (bases w) = difference_overflows _ _ o w
half_overflows x y o (tilts w) = difference_overflows _ _ o w
half_overflows x y o (quotient w) = quotient_overflows _ _ o w
half_overflows x y o (half w) = quotient_overflows _ _ o w

lower_overflows : (b : Option (Pair Number)) (x : Pair Number) (o : Overflow) → OverflowsLower b x o → IsOverflow o
lower_overflows None x o w = absurd w
lower_overflows (Some b) x o w = half_overflows b x o w.1

upper_overflows : (b : Option (Pair Number)) (x : Pair Number) (o : Overflow) → OverflowsUpper b x o → IsOverflow o
upper_overflows None x o w = absurd w
upper_overflows (Some b) x o w = half_overflows x b o w.1

range_overflows : (r : Range (Pair Number)) (x : Pair Number) (o : Overflow) → OverflowsRange r x o → IsOverflow o
range_overflows r x o (inl w) = lower_overflows r.lower x o w
range_overflows r x o (inr w) = upper_overflows r.upper x o w

pub number_overflows : (ranges : Ranges) (v : ℕ → Pair Number) (apart : List (Pair Number)) (o : Overflow) → OverflowsNumber ranges v apart o → IsOverflow o
number_overflows ranges v apart o (bounds y w) = range_overflows (ranges y) (v y) o w
number_overflows ranges v apart o (values w) = half_overflows w.lesser w.greater o w.may_overflow.1

pub value_at_overflows : (e : Number) (s : TermTableau) (o : Overflow) → OverflowsValueAt e s o → IsOverflow o
value_at_overflows e s o w = delta_value_overflows _ _ o w.leaves
