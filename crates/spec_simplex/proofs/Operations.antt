-- An operation on fractions fails by its own overflow.
use Rattle.std.proofs.Common.{◌≡◌, Bool, true, false, refl}
use Rattle.std.specs.Prelude.{Err, IfErr}
use Rattle.spec_numbers.specs.Fractions.{Fraction, plus, minus, times, divide, opposite}
use Rattle.spec_numbers.specs.Bounds.{Overflow, fits, sum_fits, checked, added, subtracted, multiplied, divided}
use Rattle.spec_numbers.specs.declared.Op.TheVariants.{Add, Sub, Mul, Div}
use Rattle.spec_simplex.specs.Overflows.{IsOverflow}
use Rattle.spec_simplex.proofs.Failing.{of_fault}

-- what is checked fails where the test does
checked_fails : (b : Bool) (x : Fraction) (o : Overflow) → (b ≡ false → IsOverflow o) → IfErr (checked b x o) IsOverflow
checked_fails true x o h = tt
checked_fails false x o h = h refl

pub added_fails : (x y : Fraction) → IfErr (added x y) IsOverflow
unfolding added
added_fails x y =
    let o : Overflow = record { op = Add; left = x; right = y } in
    checked_fails (sum_fits x y) (plus x y) o (λ e i. checked (e i) (plus x y) o)

pub subtracted_fails : (x y : Fraction) → IfErr (subtracted x y) IsOverflow
unfolding subtracted
subtracted_fails x y =
    let o : Overflow = record { op = Sub; left = x; right = y } in
    checked_fails (sum_fits x (opposite y)) (minus x y) o (λ e i. checked (e i) (minus x y) o)

pub multiplied_fails : (x y : Fraction) → IfErr (multiplied x y) IsOverflow
unfolding multiplied
multiplied_fails x y =
    let o : Overflow = record { op = Mul; left = x; right = y } in
    checked_fails (fits (times x y)) (times x y) o (λ e i. checked (e i) (times x y) o)

pub divided_fails : (x y : Fraction) → IfErr (divided x y) IsOverflow
unfolding divided
divided_fails x y =
    let o : Overflow = record { op = Div; left = x; right = y } in
    checked_fails (fits (divide x y)) (divide x y) o (λ e i. checked (e i) (divide x y) o)

module _ (x y : Fraction) (o : Overflow) where
  pub sum_overflows : added x y ≡ Err o → IsOverflow o
  sum_overflows e = of_fault IsOverflow (added x y) o (added_fails x y) e

  pub difference_overflows : subtracted x y ≡ Err o → IsOverflow o
  difference_overflows e = of_fault IsOverflow (subtracted x y) o (subtracted_fails x y) e

  pub product_overflows : multiplied x y ≡ Err o → IsOverflow o
  product_overflows e = of_fault IsOverflow (multiplied x y) o (multiplied_fails x y) e

  pub quotient_overflows : divided x y ≡ Err o → IsOverflow o
  quotient_overflows e = of_fault IsOverflow (divided x y) o (divided_fails x y) e
