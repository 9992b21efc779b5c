-- Numbers by their digits after the point.
use Rattle.std.specs.Prelude.{◌≡◌, ℕ, ◌≤◌, ◌<◌, ◌^◌, true, false, Option, Some, None}
use Rattle.spec_numbers.specs.Fractions.{Fraction}
use Rattle.spec_proof_texts.specs.Decimals.{places, in_last_place, has_decimal}
use Rattle.alethe_writer.specs.declared.numbers.Decimal.{Decimal}

-- the power of ten of so many places, of which there are 38 at most
abbrev pub IsPower : ℕ → ℕ → Type 0
IsPower k power = (k ≤ 38) × (power ≡ 10 ^ k)

-- A decimal of a number: its units, its places, and their power of ten.
pub record Writes (q : Fraction) (d : Decimal) : Type 0 where
  -- the number has a decimal
  pub there : has_decimal q ≡ true
  -- its units
  pub units : d.units ≡ in_last_place q
  -- they are within the limit
  pub small : d.units < 2 ^ 127
  -- its places
  pub places : d.places ≡ places q
  -- and their power
  pub power : IsPower d.places d.power

-- a number as a decimal, or that it has none
abbrev pub IsDecimalOf : Fraction → Option Decimal → Type 0
IsDecimalOf q None = has_decimal q ≡ false
IsDecimalOf q (Some d) = Writes q d
