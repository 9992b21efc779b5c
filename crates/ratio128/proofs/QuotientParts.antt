-- The inverse of a fraction, and the quotient of two whole numbers, by signs and sizes.
use Rattle.std.proofs.Common.{◌≡◌, ◌≢◌, ℕ, zero, suc, ◌/◌, ◌<◌, ◌^◌, Bool, true, false, not, ℤ, pos, negsuc, ◌*ℤ◌, unsigned_abs, refl, sym, ◌∙◌, ap, arith}
use Rattle.std.specs.Bool.{beq}
use Rattle.std.specs.Int.RustNames.{int_lt}
use Rattle.std.proofs.lemmas.Bool.Decides.{nat_tests}
use Rattle.std.proofs.Math.Nat.{one-mul, mul-one, div-le_self}
use Rattle.spec_numbers.specs.Fractions.{Fraction, gcd, lowest, over, signed_integer, whole, zero_fraction, times, inverse, inverse_by, divide, IsReduced}
use Rattle.spec_numbers.proofs.Signs.{signed-self, signed-mul, over-signed, abs-signed}
use Rattle.spec_numbers.proofs.Field.{zero_of, times-reduced, inverse-reduced}
use Rattle.ratio128.proofs.Bounded.{whole-reduced}

not_below : (n : ℕ) → int_lt (pos (suc n)) (pos 0) ≡ false
not_below n = grind (arith, nat_tests)

negative : (n : ℕ) → int_lt (negsuc n) (pos 0) ≡ true
negative n = grind (arith, nat_tests)

pub inverse_is : (x : Fraction) → IsReduced x → x ≢ zero_fraction → inverse x ≡ record { num = signed_integer (int_lt x.num (pos 0)) x.den; den = unsigned_abs x.num }
unfolding inverse
inverse_is x r h = by x.num x.den refl
  where
    by : (z : ℤ) (d : ℕ) → x.num ≡ z → inverse_by z d ≡ record { num = signed_integer (int_lt z (pos 0)) d; den = unsigned_abs z }
    by (pos zero) d e = absurd (h (zero_of x r e))
    by (pos (suc n)) d e = λ i. record { num = signed_integer (sym (not_below n) i) d; den = suc n }
    by (negsuc n) d e = λ i. record { num = signed_integer (sym (negative n) i) d; den = suc n }

pub size_positive : (x : Fraction) → IsReduced x → x ≢ zero_fraction → 0 < unsigned_abs x.num
size_positive x r h = by x.num refl
  where
    by : (z : ℤ) → x.num ≡ z → 0 < unsigned_abs z
    by (pos zero) e = absurd (h (zero_of x r e))
    by (pos (suc n)) e = omega arith
    by (negsuc n) e = omega arith

inverse_whole : (d : ℤ) → d ≢ pos 0 → inverse (whole d) ≡ record { num = signed_integer (int_lt d (pos 0)) 1; den = unsigned_abs d }
unfolding inverse
inverse_whole (pos zero) h = absurd (h refl)
inverse_whole (pos (suc n)) h = λ i. record { num = signed_integer (sym (not_below n) i) 1; den = suc n }
inverse_whole (negsuc n) h = λ i. record { num = signed_integer (sym (negative n) i) 1; den = suc n }

-- the quotient of n and d
pub quotient_is : (n d : ℤ) → d ≢ pos 0 → divide (whole n) (whole d)
    ≡ record { num = signed_integer (not (beq (int_lt n (pos 0)) (int_lt d (pos 0)))) (unsigned_abs n / gcd (unsigned_abs n) (unsigned_abs d)); den = unsigned_abs d / gcd (unsigned_abs n) (unsigned_abs d) }
unfolding times
quotient_is n d h =
    let b = int_lt n (pos 0) in let c = int_lt d (pos 0) in let s = not (beq b c) in let m = unsigned_abs n in let e = unsigned_abs d in
    let num : n *ℤ signed_integer (int_lt d (pos 0)) 1 ≡ signed_integer (not (beq (int_lt n (pos 0)) (int_lt d (pos 0)))) (unsigned_abs n) =
    ap (λ z. z *ℤ signed_integer (int_lt d (pos 0)) 1) (signed-self n) ∙ signed-mul (int_lt n (pos 0)) (int_lt d (pos 0)) (unsigned_abs n) 1
    ∙ ap (signed_integer (not (beq (int_lt n (pos 0)) (int_lt d (pos 0))))) (mul-one (unsigned_abs n)) in
    ap (times (whole n)) (inverse_whole d h)
    ∙ (λ i. lowest (num i) (one-mul e i))
    ∙ (λ i. record { num = over (signed_integer s m) (gcd (abs-signed s m i) e); den = e / gcd (abs-signed s m i) e })
    ∙ (λ i. record { num = over-signed s m (gcd m e) i; den = e / gcd m e })

-- the same from what is computed
pub of_is : (n d : ℤ) (top bottom g : ℕ) (z : ℤ) → d ≢ pos 0 → top ≡ unsigned_abs n → bottom ≡ unsigned_abs d → g ≡ gcd top bottom
    → z ≡ signed_integer (not (beq (int_lt n (pos 0)) (int_lt d (pos 0)))) (top / g) → divide (whole n) (whole d) ≡ record { num = z; den = bottom / g }
of_is n d top bottom g z h et eb eg ez =
    let f : gcd (unsigned_abs n) (unsigned_abs d) ≡ g = (λ i. gcd (sym et i) (sym eb i)) ∙ sym eg in
    quotient_is n d h ∙ (λ i. record { num = signed_integer (not (beq (int_lt n (pos 0)) (int_lt d (pos 0)))) (sym et i / f i); den = sym eb i / f i }) ∙ (λ i. record { num = sym ez i; den = bottom / g })

pub quotient-reduced : (n d : ℤ) → IsReduced (divide (whole n) (whole d))
quotient-reduced n d = times-reduced (whole n) (inverse (whole d)) (omega arith) (inverse-reduced (whole d) (whole-reduced d)).positive

pub signed_small : (b : Bool) (n g : ℕ) → n < 2 ^ 127 → unsigned_abs (signed_integer b (n / g)) < 2 ^ 127
signed_small b n g h = rw abs-signed (omega (arith, div-le_self n g, h))
