-- Numbers with an infinitesimal part: operations within the bound, exact operations, the order.
use Rattle.std.specs.Prelude.{◌≡◌, ◌≢◌, ◌<ℤ◌, pos, List, Contains, Result, Ok}
use Rattle.std.specs.Ordering.{ordering_then}
use Rattle.std.specs.declared.cmp.Ordering.{Ordering}
use Rattle.std.proofs.Common.{Greater}
use Rattle.spec_numbers.specs.Fractions.{Fraction, IsReduced, zero_fraction, plus, minus, times, divide, compare}
use Rattle.spec_numbers.specs.Bounds.{Overflow, added, subtracted, multiplied, divided}
use Rattle.spec_text.specs.Answers.{◌>>=◌}

-- A number base + tilt times epsilon, where epsilon is above 0 and below every number that counts.
-- Source: Dutertre and de Moura, A Fast Linear-Arithmetic Solver for DPLL(T), CAV 2006.
pub record Delta : Type 0 where
  -- the part without epsilon
  pub base : Fraction
  -- how many times epsilon is added
  pub tilt : Fraction

-- Both parts are in lowest terms.
pub record AreReduced (x : Delta) : Type 0 where
  pub base_reduced : IsReduced x.base
  pub tilt_reduced : IsReduced x.tilt

-- a fraction as a number without an infinitesimal part
abbrev pub number : Fraction → Delta
number x = record { base = x; tilt = zero_fraction }

-- the number of both parts, or the first overflow
abbrev pub both : Result Fraction Overflow → Result Fraction Overflow → Result Delta Overflow
both base tilt = base >>= λ b. tilt >>= λ t. Ok (record { base = b; tilt = t })

-- the sum, or its first overflow
unfoldable pub delta_added : Delta → Delta → Result Delta Overflow
delta_added x y = both (added x.base y.base) (added x.tilt y.tilt)

-- the difference, or its first overflow
unfoldable pub delta_subtracted : Delta → Delta → Result Delta Overflow
delta_subtracted x y = both (subtracted x.base y.base) (subtracted x.tilt y.tilt)

-- k times x, or its first overflow
unfoldable pub delta_scaled : Fraction → Delta → Result Delta Overflow
delta_scaled k x = both (multiplied k x.base) (multiplied k x.tilt)

-- x over k, which is not 0, or its first overflow
unfoldable pub delta_divided : Delta → Fraction → Result Delta Overflow
delta_divided x k = both (divided x.base k) (divided x.tilt k)

-- the value where epsilon is eps, or its first overflow
unfoldable pub delta_evaluated : Delta → Fraction → Result Fraction Overflow
delta_evaluated x eps = multiplied x.tilt eps >>= λ product. added x.base product

-- the exact sum
unfoldable pub delta_plus : Delta → Delta → Delta
delta_plus x y = record { base = plus x.base y.base; tilt = plus x.tilt y.tilt }

-- the exact difference
unfoldable pub delta_minus : Delta → Delta → Delta
delta_minus x y = record { base = minus x.base y.base; tilt = minus x.tilt y.tilt }

-- the exact product of k and x
unfoldable pub delta_times : Fraction → Delta → Delta
delta_times k x = record { base = times k x.base; tilt = times k x.tilt }

-- the exact quotient of x by k, which is not 0
unfoldable pub delta_over : Delta → Fraction → Delta
delta_over x k = record { base = divide x.base k; tilt = divide x.tilt k }

-- the exact value where epsilon is eps
unfoldable pub delta_at : Delta → Fraction → Fraction
delta_at x eps = plus x.base (times x.tilt eps)

-- the order: by bases, then by tilts
unfoldable pub delta_compare : Delta → Delta → Ordering
delta_compare x y = ordering_then (compare x.base y.base) (compare x.tilt y.tilt)

-- A fraction above 0 in lowest terms.
pub record IsPositive (x : Fraction) : Type 0 where
  pub reduced : IsReduced x
  pub above : pos 0 <ℤ x.num

-- wherever epsilon is above 0 and at most e, the values compare as the numbers do
abbrev pub AgreeUpTo : Fraction → Delta → Delta → Type 0
AgreeUpTo e x y =
    (eps : Fraction) → IsPositive eps → compare eps e ≢ Greater
    → compare (delta_at x eps) (delta_at y eps) ≡ delta_compare x y

-- the same of each two numbers of a list
abbrev pub AllAgreeUpTo : Fraction → List Delta → Type 0
AllAgreeUpTo e xs = (x y : Delta) → Contains xs x → Contains xs y → AgreeUpTo e x y
