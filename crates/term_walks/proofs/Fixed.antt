-- The numbers 0 and 1, and quotients by 0.
use Rattle.std.proofs.Common.{◌≡◌, ℕ, ◌*◌, ◌<◌, ℤ, pos, ◌*ℤ◌, refl, sym, ap, ◌∙◌, arith}
use Rattle.std.specs.Prelude.{Result, Ok}
use Rattle.std.proofs.Math.Nat.{mul-pos}
use Rattle.std.proofs.Math.IntN.{*ℤ_comm}
use Rattle.spec_numbers.specs.Fractions.{Fraction, gcd, zero_fraction, one_fraction, whole, divide, times, inverse}
use Rattle.spec_numbers.specs.Bounds.{Overflow, is_small, fits, checked, divided}
use Rattle.spec_numbers.proofs.Signs.{zero-times}
use Rattle.spec_numbers.proofs.Lowest.{lowest-cross, reduced-same}
use Rattle.spec_numbers.proofs.Field.{zero-reduced}
use Rattle.spec_numbers.specs.declared.Op.TheVariants.{Div}

pub zero_is : divide (whole (pos 0)) (whole (pos 1)) ≡ zero_fraction
unfolding times inverse gcd
zero_is = refl

pub one_is : divide (whole (pos 1)) (whole (pos 1)) ≡ one_fraction
unfolding times inverse gcd
one_is = refl

none : (z : ℤ) (d : ℕ) → (z *ℤ pos 0) *ℤ pos 1 ≡ pos 0 *ℤ pos d
none z d = ap (λ y. y *ℤ pos 1) (*ℤ_comm z (pos 0) ∙ zero-times z) ∙ zero-times (pos 1) ∙ sym (zero-times (pos d))

-- a number by 0 is 0
divide_zero : (x : Fraction) → 0 < x.den → divide x zero_fraction ≡ zero_fraction
unfolding times inverse
divide_zero x p =
    lowest-cross (x.num *ℤ pos 0) (pos 0) (x.den * 1) 1 (mul-pos p (omega arith)) (omega arith) (none x.num (x.den * 1))
    ∙ reduced-same zero_fraction zero-reduced

zero_fits : (o : Overflow) → checked (fits zero_fraction) zero_fraction o ≡ Ok zero_fraction
unfolding fits is_small
zero_fits o = refl

pub quotient_zero : (x y z : Fraction) → 0 < x.den → y ≡ zero_fraction → z ≡ zero_fraction → (let r : Result Fraction Overflow = Ok z in r) ≡ divided x y
unfolding divided
quotient_zero x y z p by is =
    ap Ok is ∙ sym (zero_fits over)
    ∙ (λ i. checked (fits (sym (divide_zero x p) i)) (sym (divide_zero x p) i) over)
    ∙ (λ i. checked (fits (divide x (sym by i))) (divide x (sym by i)) (record { op = Div; left = x; right = sym by i }))
  where
    over : Overflow
    over = record { op = Div; left = x; right = zero_fraction }
