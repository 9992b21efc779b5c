-- Laws of fractions besides those of a field: 0 and 1 on the left, and products with 0.
use Rattle.std.proofs.Common.{◌≡◌, ℕ, ◌*◌, ◌<◌, true, pos, ◌*ℤ◌, refl, sym, ◌∙◌, ap, arith, ◌≢◌, zero, suc, false, ℤ, negsuc, neg_ℤ, true≢false}
use Rattle.std.proofs.Math.Nat.{mul-pos}
use Rattle.std.proofs.lemmas.Bool.Decides.{Decides-int_eq, nat_tests}
use Rattle.std.specs.Ordering.{int_eq}
use Rattle.spec_numbers.specs.Fractions.{Fraction, lowest, zero_fraction, one_fraction, plus, times, opposite, IsReduced}
use Rattle.spec_numbers.proofs.Signs.{zero-times}
use Rattle.spec_numbers.proofs.Lowest.{lowest-cross, reduced-same}
use Rattle.spec_numbers.proofs.Field.{plus-comm, plus-zero, times-comm, times-one, zero-reduced}
use Rattle.spec_arithmetic.specs.Signs.{is_zero}

pub plus-zero_left : (x : Fraction) → IsReduced x → plus zero_fraction x ≡ x
plus-zero_left x r = plus-comm zero_fraction x ∙ plus-zero x r

pub times-one_left : (x : Fraction) → IsReduced x → times one_fraction x ≡ x
times-one_left x r = times-comm one_fraction x ∙ times-one x r

pub opposite-zero : opposite zero_fraction ≡ zero_fraction
unfolding opposite
opposite-zero = refl

-- 0 over a number above 0
lowest_zero : (d : ℕ) → 0 < d → lowest (pos 0) d ≡ zero_fraction
lowest_zero d p =
    lowest-cross (pos 0) (pos 0) d 1 p (omega arith) (zero-times (pos 1) ∙ sym (zero-times (pos d))) ∙ reduced-same zero_fraction zero-reduced

pub zero_num : (x : Fraction) → is_zero x ≡ true → x.num ≡ pos 0
unfolding is_zero
zero_num x e = (Decides-int_eq x.num (pos 0)).0 e

-- a product with a factor that passes the test for 0
pub times-of_zero : (k x : Fraction) → is_zero k ≡ true → 0 < k.den → 0 < x.den → times k x ≡ zero_fraction
unfolding times
times-of_zero k x e p q =
    (λ i. lowest (zero_num k e i *ℤ x.num) (k.den * x.den)) ∙ ap (λ z. lowest z (k.den * x.den)) (zero-times x.num)
    ∙ lowest_zero (k.den * x.den) (mul-pos p q)

pub times-zero : (x : Fraction) → 0 < x.den → times x zero_fraction ≡ zero_fraction
unfolding is_zero
times-zero x p = times-comm x zero_fraction ∙ times-of_zero zero_fraction x refl (omega arith) p

-- what fails the test for 0 is another number, and so is its opposite
pub not_zero : (x : Fraction) → is_zero x ≡ false → x ≢ zero_fraction
unfolding is_zero
not_zero x e h = true≢false (sym (ap is_zero h) ∙ e)

pub opposite-not_zero : (x : Fraction) → is_zero x ≡ false → is_zero (opposite x) ≡ false
unfolding is_zero opposite
opposite-not_zero x = negated x.num
  where
    negated : (z : ℤ) → int_eq z (pos 0) ≡ false → int_eq (neg_ℤ z) (pos 0) ≡ false
    negated (pos zero) e = absurd (true≢false e)
    negated (pos (suc n)) e = refl
    negated (negsuc n) e = grind (arith, nat_tests)
