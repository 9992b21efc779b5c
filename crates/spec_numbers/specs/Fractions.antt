-- Fractions of any size: lowest terms, the exact operations, the order.
use Rattle.std.specs.Prelude.{◌≡◌, ℕ, zero, suc, ◌*◌, ◌/◌, ◌%◌, ◌<◌, Bool, true, false, ℤ, pos, negsuc, ◌+ℤ◌, ◌*ℤ◌}
use Rattle.std.specs.Prelude.{neg_ℤ, unsigned_abs}
use Rattle.std.specs.Ordering.{int_cmp}
use Rattle.std.specs.declared.cmp.Ordering.{Ordering}

-- A whole number over another one. As numbers stand for themselves only pairs in lowest terms are used.
pub record Fraction : Type 0 where
  -- the numerator
  pub num : ℤ
  -- the denominator
  pub den : ℕ

-- the last number before a remainder of 0, in at most so many divisions with remainder
abbrev pub gcd_within : ℕ → ℕ → ℕ → ℕ
gcd_within zero a b = a
gcd_within (suc n) a zero = a
gcd_within (suc n) a (suc b) = gcd_within n (suc b) (a % suc b)

-- the greatest common divisor, 0 of 0 and 0; Source: Euclid, Elements, book VII, proposition 2
unfoldable pub gcd : ℕ → ℕ → ℕ
gcd a b = gcd_within b a b

-- A fraction in lowest terms: its denominator is above 0, and its parts have no common divisor but 1.
pub record IsReduced (x : Fraction) : Type 0 where
  pub positive : 0 < x.den
  pub coprime : gcd (unsigned_abs x.num) x.den ≡ 1

-- the fractions have one value: their cross products are equal
abbrev pub SameValue : Fraction → Fraction → Type 0
SameValue x y = x.num *ℤ pos y.den ≡ y.num *ℤ pos x.den

-- a whole number over one of its divisors
abbrev pub over : ℤ → ℕ → ℤ
over (pos n) g = pos (n / g)
over (negsuc n) g = neg_ℤ (pos (suc n / g))

-- the integer of a sign and a size: minus the size where the sign is true
abbrev pub signed_integer : Bool → ℕ → ℤ
signed_integer false n = pos n
signed_integer true n = neg_ℤ (pos n)

-- the fraction in lowest terms with the value of z over d, where d is above 0
abbrev pub lowest : ℤ → ℕ → Fraction
lowest z d = record { num = over z (gcd (unsigned_abs z) d); den = d / gcd (unsigned_abs z) d }

-- a whole number as a fraction
abbrev pub whole : ℤ → Fraction
whole z = record { num = z; den = 1 }

-- 0
abbrev pub zero_fraction : Fraction
zero_fraction = record { num = pos 0; den = 1 }

-- 1
abbrev pub one_fraction : Fraction
one_fraction = record { num = pos 1; den = 1 }

-- the exact sum
unfoldable pub plus : Fraction → Fraction → Fraction
plus x y = lowest (x.num *ℤ pos y.den +ℤ y.num *ℤ pos x.den) (x.den * y.den)

-- the additive inverse
unfoldable pub opposite : Fraction → Fraction
opposite x = record { num = neg_ℤ x.num; den = x.den }

-- the exact difference
abbrev pub minus : Fraction → Fraction → Fraction
minus x y = plus x (opposite y)

-- the exact product
unfoldable pub times : Fraction → Fraction → Fraction
times x y = lowest (x.num *ℤ y.num) (x.den * y.den)

-- one over z over d, where d is above 0; of 0 it is 0
abbrev pub inverse_by : ℤ → ℕ → Fraction
inverse_by (pos zero) d = zero_fraction
inverse_by (pos (suc n)) d = record { num = pos d; den = suc n }
inverse_by (negsuc n) d = record { num = neg_ℤ (pos d); den = suc n }

-- the multiplicative inverse, and 0 of 0
unfoldable pub inverse : Fraction → Fraction
inverse x = inverse_by x.num x.den

-- the exact quotient, and 0 where the divisor is 0
abbrev pub divide : Fraction → Fraction → Fraction
divide x y = times x (inverse y)

-- the order: cross products are compared, for denominators above 0
unfoldable pub compare : Fraction → Fraction → Ordering
compare x y = int_cmp (x.num *ℤ pos y.den) (y.num *ℤ pos x.den)
