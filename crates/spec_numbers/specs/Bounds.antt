-- Operations on fractions whose parts are bounded: the exact result, or an overflow.
use Rattle.std.specs.Prelude.{ℕ, ◌/◌, ◌^◌, Bool, true, false, ◌&&◌, nat_lt, ℤ, pos, ◌+ℤ◌, ◌*ℤ◌, unsigned_abs, Result}
use Rattle.std.specs.Prelude.{Ok, Err}
use Rattle.spec_numbers.specs.Fractions.{Fraction, gcd, plus, minus, times, divide, opposite}
use Rattle.spec_numbers.specs.declared.Op.{Op}
use Rattle.spec_numbers.specs.declared.Op.TheVariants.{Add, Sub, Mul, Div}

-- a size is within the bound 2^127 - 1
unfoldable pub is_small : ℕ → Bool
is_small n = nat_lt n (2 ^ 127)

-- both parts of a fraction are within the bound
unfoldable pub fits : Fraction → Bool
fits x = is_small (unsigned_abs x.num) && is_small x.den

-- the numerator of the sum over the least common multiple of the denominators
abbrev pub common_sum : Fraction → Fraction → ℤ
common_sum x y = x.num *ℤ pos (y.den / gcd x.den y.den) +ℤ y.num *ℤ pos (x.den / gcd x.den y.den)

-- the sum is within the bound, and so are both numerators over the least common multiple, and their sum
unfoldable pub sum_fits : Fraction → Fraction → Bool
sum_fits x y =
    (is_small (unsigned_abs (x.num *ℤ pos (y.den / gcd x.den y.den)))
    && is_small (unsigned_abs (y.num *ℤ pos (x.den / gcd x.den y.den))))
    && (is_small (unsigned_abs (common_sum x y)) && fits (plus x y))

-- An operation whose result is out of the bound, with its operands.
pub record Overflow : Type 0 where
  pub op : Op
  pub left : Fraction
  pub right : Fraction

-- the fraction where the test holds, else the overflow of the operation
abbrev pub checked : Bool → Fraction → Overflow → Result Fraction Overflow
checked true x o = Ok x
checked false x o = Err o

-- the sum, or its overflow
unfoldable pub added : Fraction → Fraction → Result Fraction Overflow
added x y = checked (sum_fits x y) (plus x y) (record { op = Add; left = x; right = y })

-- the difference, or its overflow
unfoldable pub subtracted : Fraction → Fraction → Result Fraction Overflow
subtracted x y = checked (sum_fits x (opposite y)) (minus x y) (record { op = Sub; left = x; right = y })

-- the product, or its overflow
unfoldable pub multiplied : Fraction → Fraction → Result Fraction Overflow
multiplied x y = checked (fits (times x y)) (times x y) (record { op = Mul; left = x; right = y })

-- the quotient by a divisor that is not 0, or its overflow
unfoldable pub divided : Fraction → Fraction → Result Fraction Overflow
divided x y = checked (fits (divide x y)) (divide x y) (record { op = Div; left = x; right = y })
