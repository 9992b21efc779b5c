-- What holds of the parts of each `Ratio`.
use Rattle.std.specs.Prelude.{◌≡◌, ℕ, ◌^◌, ◌<◌, ℤ, unsigned_abs}
use Rattle.spec_numbers.specs.Fractions.{gcd}

-- The fraction is in lowest terms and within the bound 2^127 - 1.
pub record AreParts (num : ℤ) (den : ℕ) : Type 0 where
  pub positive : 0 < den
  pub coprime : gcd (unsigned_abs num) den ≡ 1
  pub num_fits : unsigned_abs num < 2 ^ 127
  pub den_fits : den < 2 ^ 127
