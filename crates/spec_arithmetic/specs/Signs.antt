-- Signs and sizes of fractions.
use Rattle.std.specs.Prelude.{Bool, pos, unsigned_abs}
use Rattle.std.specs.Int.RustNames.{int_lt}
use Rattle.std.specs.Ordering.{int_eq}
use Rattle.spec_numbers.specs.Fractions.{Fraction}

-- the fraction is 0
unfoldable pub is_zero : Fraction → Bool
is_zero x = int_eq x.num (pos 0)

-- the fraction is above 0
unfoldable pub is_above_zero : Fraction → Bool
is_above_zero x = int_lt (pos 0) x.num

-- the size of a fraction, without its sign
unfoldable pub size : Fraction → Fraction
size x = record { num = pos (unsigned_abs x.num); den = x.den }
