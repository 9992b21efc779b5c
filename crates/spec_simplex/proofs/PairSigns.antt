-- Signs of numbers with a tilt: sums, and products with sizes.
use Rattle.std.proofs.Common.{◌≡◌, ◌<◌, Bool, true, false, ◌&&◌, ◌||◌, ℤ, pos, negsuc, ◌<ℤ◌, ◌≤ℤ◌, neg_ℤ, unsigned_abs, refl, sym, ◌∙◌, ap, subst, arith, true≢false}
use Rattle.std.specs.Ordering.{int_eq}
use Rattle.std.specs.Int.RustNames.{int_lt}
use Rattle.std.proofs.lemmas.Bool.{and_parts}
use Rattle.std.proofs.lemmas.Bool.Decides.{nat_tests}
use Rattle.std.proofs.lemmas.Int.{ints}
use Rattle.std.proofs.Math.Bool.{or-true}
use Rattle.spec_numbers.specs.Fractions.{Fraction, zero_fraction, plus, times, opposite, IsReduced}
use Rattle.spec_numbers.proofs.Field.{plus-comm, plus-zero, zero_of, zero-reduced}
use Rattle.spec_arithmetic.specs.Signs.{is_zero, is_above_zero, size}
use Rattle.spec_arithmetic.proofs.Zero.{zero_num, times-zero, times-of_zero}
use Rattle.spec_arithmetic.proofs.Differences.{IsAtMostZero, IsBelowZero, zero-at_most, below-at_most, plus-at_most, plus-below_left, plus-below_right, times-at_most, times-below}
use Rattle.spec_arithmetic.proofs.Sums.{size_positive}
use Rattle.spec_simplex.specs.Points.{is_below_zero, is_over, is_under}

-- A number with a tilt is at most 0.
pub data IsUpTo (b t : Fraction) : Type 0 where
  lower : IsBelowZero b → IsUpTo b t
  level : b ≡ zero_fraction → IsAtMostZero t → IsUpTo b t

-- A number with a tilt is below 0.
pub data IsLess (b t : Fraction) : Type 0 where
  less_base : IsBelowZero b → IsLess b t
  less_tilt : b ≡ zero_fraction → IsBelowZero t → IsLess b t

pub less_up_to : (b t : Fraction) → IsLess b t → IsUpTo b t
less_up_to b t (less_base h) = lower h
less_up_to b t (less_tilt e h) = level e (below-at_most t h)

pub zero_up_to : (x : Fraction) → x ≡ zero_fraction → IsAtMostZero x
zero_up_to x e = subst IsAtMostZero (sym e) zero-at_most

-- sums
plus_zeros : (x y : Fraction) → x ≡ zero_fraction → y ≡ zero_fraction → plus x y ≡ zero_fraction
plus_zeros x y e f = (λ i. plus (e i) (f i)) ∙ plus-zero zero_fraction zero-reduced

pub plus_up_to : (b s c t : Fraction) → 0 < b.den → 0 < c.den → IsUpTo b s → IsUpTo c t → IsUpTo (plus b c) (plus s t)
plus_up_to b s c t p q (lower h) (lower k) = lower (plus-below_left b c h (below-at_most c k) q)
plus_up_to b s c t p q (lower h) (level f k) = lower (plus-below_left b c h (zero_up_to c f) q)
plus_up_to b s c t p q (level e h) (lower k) = lower (plus-below_right b c (zero_up_to b e) k p)
plus_up_to b s c t p q (level e h) (level f k) = level (plus_zeros b c e f) (plus-at_most s t h k)

pub plus_less : (b s c t : Fraction) → 0 < b.den → 0 < c.den → 0 < t.den → IsLess b s → IsUpTo c t → IsLess (plus b c) (plus s t)
plus_less b s c t p q r (less_base h) (lower k) = less_base (plus-below_left b c h (below-at_most c k) q)
plus_less b s c t p q r (less_base h) (level f k) = less_base (plus-below_left b c h (zero_up_to c f) q)
plus_less b s c t p q r (less_tilt e h) (lower k) = less_base (plus-below_right b c (zero_up_to b e) k p)
plus_less b s c t p q r (less_tilt e h) (level f k) = less_tilt (plus_zeros b c e f) (plus-below_left s t h k r)

pub plus_less_right : (b s c t : Fraction) → 0 < b.den → 0 < c.den → 0 < s.den → IsUpTo b s → IsLess c t → IsLess (plus b c) (plus s t)
plus_less_right b s c t p q r h k =
    subst (λ x. IsLess x (plus s t)) (plus-comm c b) (subst (IsLess (plus c b)) (plus-comm t s) (plus_less c t b s q p r k h))

-- products with a size
size_zero : (w : Fraction) → is_zero w ≡ true → is_zero (size w) ≡ true
unfolding is_zero size
size_zero w e = ap (λ z. int_eq (pos (unsigned_abs z)) (pos 0)) (zero_num w e)

pub times_up_to : (w b t : Fraction) → 0 < w.den → 0 < b.den → 0 < t.den → IsUpTo b t → IsUpTo (times (size w) b) (times (size w) t)
unfolding size
times_up_to w b t p q r (level e h) = level (ap (times (size w)) e ∙ times-zero (size w) p) (times-at_most (size w) t (unsigned_abs w.num) refl h)
times_up_to w b t p q r (lower h) = by (is_zero w) refl
  where
    by : (z : Bool) → is_zero w ≡ z → IsUpTo (times (size w) b) (times (size w) t)
    by true e = level (times-of_zero (size w) b (size_zero w e) p q) (zero_up_to _ (times-of_zero (size w) t (size_zero w e) p r))
    by false e = lower (times-below (size w) b (unsigned_abs w.num) refl (size_positive w e) h)

pub times_less : (w b t : Fraction) → 0 < w.den → is_zero w ≡ false → IsLess b t → IsLess (times (size w) b) (times (size w) t)
unfolding size
times_less w b t p e (less_base h) = less_base (times-below (size w) b (unsigned_abs w.num) refl (size_positive w e) h)
times_less w b t p e (less_tilt f h) =
    less_tilt (ap (times (size w)) f ∙ times-zero (size w) p) (times-below (size w) t (unsigned_abs w.num) refl (size_positive w e) h)

-- what tests tell
pub zero_is : (x : Fraction) → IsReduced x → is_zero x ≡ true → x ≡ zero_fraction
zero_is x r e = zero_of x r (zero_num x e)

below_of : (x : Fraction) → is_below_zero x ≡ true → IsBelowZero x
unfolding is_below_zero
below_of x e = record { num = by x.num e }
  where
    by : (z : ℤ) → int_lt z (pos 0) ≡ true → z <ℤ pos 0
    by z e = grind (arith, nat_tests)

below_left : (x : Fraction) → is_above_zero x ≡ false → is_zero x ≡ false → IsBelowZero x
unfolding is_above_zero is_zero
below_left x e f = record { num = by x.num e f }
  where
    by : (z : ℤ) → int_lt (pos 0) z ≡ false → int_eq z (pos 0) ≡ false → z <ℤ pos 0
    by z e f = grind (arith, nat_tests)

at_most_of : (x : Fraction) → is_above_zero x ≡ false → IsAtMostZero x
unfolding is_above_zero
at_most_of x e = record { num = by x.num e }
  where
    by : (z : ℤ) → int_lt (pos 0) z ≡ false → z ≤ℤ pos 0
    by z e = grind (arith, nat_tests)

pub under_less : (b t : Fraction) → IsReduced b → is_under b t ≡ true → IsLess b t
unfolding is_under
under_less b t r e = by (is_below_zero b) refl e
  where
    by : (x : Bool) → is_below_zero b ≡ x → x || (is_zero b && is_below_zero t) ≡ true → IsLess b t
    by true h e = less_base (below_of b h)
    by false h e = let parts = and_parts (is_zero b) (is_below_zero t) e in less_tilt (zero_is b r parts.0) (below_of t parts.1)

pub not_over_up_to : (b t : Fraction) → IsReduced b → is_over b t ≡ false → IsUpTo b t
unfolding is_over
not_over_up_to b t r e = by (is_above_zero b) refl (is_zero b) refl e
  where
    by : (x : Bool) → is_above_zero b ≡ x → (z : Bool) → is_zero b ≡ z → x || (z && is_above_zero t) ≡ false → IsUpTo b t
    by true h z f e = absurd (true≢false e)
    by false h true f e = level (zero_is b r f) (at_most_of t e)
    by false h false f e = lower (below_left b h f)

-- what is above 0 has an opposite below 0
over_opposite : (b t : Fraction) → is_under (opposite b) (opposite t) ≡ is_over b t
unfolding is_under is_over opposite is_below_zero is_above_zero is_zero
over_opposite b t = λ i. below b.num i || (none b.num i && below t.num i)
  where
    below : (z : ℤ) → int_lt (neg_ℤ z) (pos 0) ≡ int_lt (pos 0) z
    below z = grind (arith, nat_tests)

    none : (z : ℤ) → int_eq (neg_ℤ z) (pos 0) ≡ int_eq z (pos 0)
    none z = grind (arith, nat_tests)

under_opposite : (b t : Fraction) → is_over (opposite b) (opposite t) ≡ is_under b t
unfolding is_under is_over opposite is_below_zero is_above_zero is_zero
under_opposite b t = λ i. above b.num i || (none b.num i && above t.num i)
  where
    above : (z : ℤ) → int_lt (pos 0) (neg_ℤ z) ≡ int_lt z (pos 0)
    above z = grind (arith, nat_tests)

    none : (z : ℤ) → int_eq (neg_ℤ z) (pos 0) ≡ int_eq z (pos 0)
    none z = grind (arith, nat_tests)

pub over_less : (b t : Fraction) → IsReduced (opposite b) → is_over b t ≡ true → IsLess (opposite b) (opposite t)
over_less b t r e = under_less (opposite b) (opposite t) r (over_opposite b t ∙ e)

pub not_under_up_to : (b t : Fraction) → IsReduced (opposite b) → is_under b t ≡ false → IsUpTo (opposite b) (opposite t)
not_under_up_to b t r e = not_over_up_to (opposite b) (opposite t) r (under_opposite b t ∙ e)

-- a number at most 0 is not above 0, nor 0 where it is below 0
pub no_sum : (c : Fraction) (strict : Bool) → is_above_zero c || (is_zero c && strict) ≡ true → IsUpTo c zero_fraction → (strict ≡ true → IsLess c zero_fraction) → ⊥
unfolding is_above_zero is_zero
no_sum c strict e h k = by (is_above_zero c) refl e
  where
    not_below : IsBelowZero c → int_lt (pos 0) c.num || int_eq c.num (pos 0) ≡ true → ⊥
    not_below b e = numbers c.num b.num e
      where
        numbers : (z : ℤ) → z <ℤ pos 0 → int_lt (pos 0) z || int_eq z (pos 0) ≡ true → ⊥
        numbers (pos n) b e = absurd (omega (arith, ints))
        numbers (negsuc n) b e = absurd (true≢false (sym e))

    not_above : IsUpTo c zero_fraction → is_above_zero c ≡ true → ⊥
    not_above (lower b) f = not_below b (ap (λ x. x || int_eq c.num (pos 0)) f)
    not_above (level z b) f = true≢false (sym f ∙ ap is_above_zero z)

    not_zero : IsLess c zero_fraction → is_zero c ≡ true → ⊥
    not_zero (less_base b) f = not_below b (ap (λ x. int_lt (pos 0) c.num || x) f ∙ or-true (int_lt (pos 0) c.num))
    not_zero (less_tilt z b) f = none b.num
      where
        none : pos 0 <ℤ pos 0 → ⊥
        none h = absurd (omega (arith, ints))

    by : (b : Bool) → is_above_zero c ≡ b → b || (is_zero c && strict) ≡ true → ⊥
    by true f e = not_above h f
    by false f e = let parts = and_parts (is_zero c) strict e in not_zero (k parts.1) parts.0
