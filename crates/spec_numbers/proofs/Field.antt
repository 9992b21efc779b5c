-- Fractions in lowest terms are a field. The laws of sums and products hold of all pairs.
use Rattle.std.proofs.Common.{◌≡◌, ◌≢◌, ℕ, zero, suc, ◌*◌, ◌/◌, ◌<◌, true, ℤ, pos, negsuc, ◌+ℤ◌, ◌*ℤ◌, neg_ℤ, unsigned_abs, refl, sym, ◌∙◌, ap, arith}
use Rattle.std.proofs.Math.IntN.{*ℤ_comm, +ℤ_comm}
use Rattle.std.proofs.Math.Nat.{mul-pos, mul_comm, mul_assoc, mul-one, zero-div}
use Rattle.std.proofs.lemmas.Int.{ints}
use Rattle.spec_numbers.specs.Fractions.{Fraction, gcd, lowest, over, zero_fraction, one_fraction, plus, times, opposite, inverse, inverse_by, IsReduced, minus}
use Rattle.spec_numbers.proofs.Gcd.{gcd-comm}
use Rattle.spec_numbers.proofs.Signs.{abs-signed, over-neg, abs-neg, zero-times}
use Rattle.spec_numbers.proofs.Differences.{diff-same, diff-sum, diff-product, diff-neg, diff-pos}
use Rattle.spec_numbers.proofs.Integers.{by_one, by_two, times_whole, sum_scale, sum_regroup, product_regroup, product_spread, opposite_product, opposite_sum}
use Rattle.spec_numbers.proofs.Lowest.{lowest-scale, lowest-cross, lowest-reduced, reduced-same, lowest_unique, through}

-- sums
pub plus-lowest : (z : ℤ) (d : ℕ) (y : Fraction) → plus (lowest z d) y ≡ lowest (z *ℤ pos y.den +ℤ y.num *ℤ pos d) (d * y.den)
unfolding plus
plus-lowest z d y = through (λ z d. z *ℤ pos y.den +ℤ y.num *ℤ pos d) (λ d. d * y.den) (λ k z d. sum_scale z y.num k y.den d) (λ k d. mul_assoc k d y.den) z d

pub plus-comm : (x y : Fraction) → plus x y ≡ plus y x
unfolding plus
plus-comm x y = λ i. lowest (+ℤ_comm (x.num *ℤ pos y.den) (y.num *ℤ pos x.den) i) (mul_comm x.den y.den i)

plus_thrice : (x y z : Fraction) → plus (plus x y) z ≡ lowest ((x.num *ℤ pos y.den +ℤ y.num *ℤ pos x.den) *ℤ pos z.den +ℤ z.num *ℤ pos (x.den * y.den)) (x.den * y.den * z.den)
unfolding plus
plus_thrice x y z = plus-lowest (x.num *ℤ pos y.den +ℤ y.num *ℤ pos x.den) (x.den * y.den) z

turned : (a b c : ℕ) → a * b * c ≡ b * c * a
turned a b c = omega arith

pub plus-assoc : (x y z : Fraction) → plus (plus x y) z ≡ plus x (plus y z)
plus-assoc x y z =
    plus_thrice x y z
    ∙ (λ i. lowest (sum_regroup x.num y.num z.num x.den y.den z.den i) (turned x.den y.den z.den i))
    ∙ sym (plus_thrice y z x) ∙ plus-comm (plus y z) x

pub plus-swap : (x y z : Fraction) → plus x (plus y z) ≡ plus y (plus x z)
plus-swap x y z = sym (plus-assoc x y z) ∙ ap (λ t. plus t z) (plus-comm x y) ∙ plus-assoc y x z

-- (a + b) + (c + d) is (a + c) + (b + d)
pub plus-cross : (a b c d : Fraction) → plus (plus a b) (plus c d) ≡ plus (plus a c) (plus b d)
plus-cross a b c d = plus-assoc a b (plus c d) ∙ ap (plus a) (plus-swap b c d) ∙ sym (plus-assoc a c (plus b d))

-- products
pub times-lowest : (z : ℤ) (d : ℕ) (y : Fraction) → times (lowest z d) y ≡ lowest (z *ℤ y.num) (d * y.den)
unfolding times
times-lowest z d y = through (λ z d. z *ℤ y.num) (λ d. d * y.den) (λ k z d. product_regroup (pos k) z y.num) (λ k d. mul_assoc k d y.den) z d

pub times-comm : (x y : Fraction) → times x y ≡ times y x
unfolding times
times-comm x y = λ i. lowest (*ℤ_comm x.num y.num i) (mul_comm x.den y.den i)

times_thrice : (x y z : Fraction) → times (times x y) z ≡ lowest ((x.num *ℤ y.num) *ℤ z.num) (x.den * y.den * z.den)
unfolding times
times_thrice x y z = times-lowest (x.num *ℤ y.num) (x.den * y.den) z

pub times-assoc : (x y z : Fraction) → times (times x y) z ≡ times x (times y z)
times-assoc x y z =
    times_thrice x y z
    ∙ (λ i. lowest ((product_regroup x.num y.num z.num ∙ *ℤ_comm x.num (y.num *ℤ z.num)) i) (turned x.den y.den z.den i))
    ∙ sym (times_thrice y z x) ∙ times-comm (times y z) x

times_sum : (x y z : Fraction) → times (plus x y) z ≡ lowest ((x.num *ℤ pos y.den +ℤ y.num *ℤ pos x.den) *ℤ z.num) (x.den * y.den * z.den)
unfolding plus
times_sum x y z = times-lowest (x.num *ℤ pos y.den +ℤ y.num *ℤ pos x.den) (x.den * y.den) z

pub plus-lowest_both : (z : ℤ) (d : ℕ) (w : ℤ) (e : ℕ) → plus (lowest z d) (lowest w e) ≡ lowest (z *ℤ pos e +ℤ w *ℤ pos d) (d * e)
unfolding plus
plus-lowest_both z d w e =
    plus-lowest z d (lowest w e)
    ∙ (λ i. lowest (+ℤ_comm (z *ℤ pos (lowest w e).den) ((lowest w e).num *ℤ pos d) i) (mul_comm d (lowest w e).den i))
    ∙ through (λ v q. v *ℤ pos d +ℤ z *ℤ pos q) (λ q. q * d) (λ k v q. sum_scale v z k d q) (λ k q. mul_assoc k q d) w e
    ∙ (λ i. lowest (+ℤ_comm (w *ℤ pos d) (z *ℤ pos e) i) (mul_comm e d i))

sum_times : (x y z : Fraction) → plus (times x z) (times y z) ≡ lowest ((x.num *ℤ z.num) *ℤ pos (y.den * z.den) +ℤ (y.num *ℤ z.num) *ℤ pos (x.den * z.den)) ((x.den * z.den) * (y.den * z.den))
unfolding times
sum_times x y z = plus-lowest_both (x.num *ℤ z.num) (x.den * z.den) (y.num *ℤ z.num) (y.den * z.den)

spread : (a b c : ℕ) → c * (a * b * c) ≡ (a * c) * (b * c)
spread a b c = omega arith

pub times-plus : (x y z : Fraction) → 0 < z.den → times (plus x y) z ≡ plus (times x z) (times y z)
times-plus x y z zp =
    times_sum x y z
    ∙ sym (lowest-scale ((x.num *ℤ pos y.den +ℤ y.num *ℤ pos x.den) *ℤ z.num) (x.den * y.den * z.den) z.den zp)
    ∙ (λ i. lowest (sym (product_spread x.num y.num z.num x.den y.den z.den) i) (spread x.den y.den z.den i))
    ∙ sym (sum_times x y z)

pub times-plus_left : (x y z : Fraction) → 0 < z.den → times z (plus x y) ≡ plus (times z x) (times z y)
times-plus_left x y z zp = times-comm z (plus x y) ∙ times-plus x y z zp ∙ (λ i. plus (times-comm x z i) (times-comm y z i))

-- opposites
pub opposite-lowest : (z : ℤ) (d : ℕ) → opposite (lowest z d) ≡ lowest (neg_ℤ z) d
unfolding opposite
opposite-lowest z d = λ i. record {
  num = (sym (over-neg z (gcd (unsigned_abs z) d)) ∙ ap (λ n. over (neg_ℤ z) (gcd n d)) (sym (abs-neg z))) i;
  den = ap (λ n. d / gcd n d) (sym (abs-neg z)) i;
}

pub opposite-plus : (x y : Fraction) → opposite (plus x y) ≡ plus (opposite x) (opposite y)
unfolding opposite plus
opposite-plus x y = opposite-lowest (x.num *ℤ pos y.den +ℤ y.num *ℤ pos x.den) (x.den * y.den) ∙ (λ i. lowest (sym (opposite_sum x.num y.num y.den x.den) i) (x.den * y.den))

pub opposite-times : (x y : Fraction) → opposite (times x y) ≡ times (opposite x) y
unfolding opposite times
opposite-times x y = opposite-lowest (x.num *ℤ y.num) (x.den * y.den) ∙ (λ i. lowest (sym (opposite_product x.num y.num) i) (x.den * y.den))

-- fractions in lowest terms
pub plus-reduced : (x y : Fraction) → 0 < x.den → 0 < y.den → IsReduced (plus x y)
unfolding plus
plus-reduced x y p q = lowest-reduced _ _ (mul-pos p q)

pub times-reduced : (x y : Fraction) → 0 < x.den → 0 < y.den → IsReduced (times x y)
unfolding times
times-reduced x y p q = lowest-reduced _ _ (mul-pos p q)

pub sum_reduced : (x y : Fraction) → IsReduced x → IsReduced y → IsReduced (plus x y)
sum_reduced x y p q = plus-reduced x y p.positive q.positive

pub product_reduced : (x y : Fraction) → IsReduced x → IsReduced y → IsReduced (times x y)
product_reduced x y p q = times-reduced x y p.positive q.positive

pub opposite-reduced : (x : Fraction) → IsReduced x → IsReduced (opposite x)
unfolding opposite
opposite-reduced x r = record { positive = r.positive; coprime = ap (λ n. gcd n x.den) (abs-neg x.num) ∙ r.coprime }

pub minus-reduced : (x y : Fraction) → IsReduced x → IsReduced y → IsReduced (minus x y)
minus-reduced x y r q = plus-reduced x _ r.positive (opposite-reduced y q).positive

pub zero-reduced : IsReduced zero_fraction
unfolding gcd
zero-reduced = record { positive = omega arith; coprime = refl }

pub one-reduced : IsReduced one_fraction
unfolding gcd
one-reduced = record { positive = omega arith; coprime = refl }

pub inverse-reduced : (x : Fraction) → IsReduced x → IsReduced (inverse x)
unfolding inverse
inverse-reduced x r = by x.num x.den r.coprime
  where
    by : (z : ℤ) (d : ℕ) → gcd (unsigned_abs z) d ≡ 1 → IsReduced (inverse_by z d)
    by (pos zero) d e = zero-reduced
    by (pos (suc n)) d e = record { positive = omega arith; coprime = gcd-comm d (suc n) ∙ e }
    by (negsuc n) d e = record { positive = omega arith; coprime = ap (λ k. gcd k (suc n)) (abs-signed true d) ∙ gcd-comm d (suc n) ∙ e }

-- 0 and 1
pub plus-zero : (x : Fraction) → IsReduced x → plus x zero_fraction ≡ x
unfolding plus
plus-zero x r = (λ i. lowest (top x.num x.den i) (mul-one x.den i)) ∙ reduced-same x r
  where
    top : (z : ℤ) (d : ℕ) → z *ℤ pos 1 +ℤ pos 0 *ℤ pos d ≡ z
    top z d = (λ i. times_whole z i +ℤ zero-times (pos d) i) ∙ (omega (arith, ints))

pub times-one : (x : Fraction) → IsReduced x → times x one_fraction ≡ x
unfolding times
times-one x r = (λ i. lowest (times_whole x.num i) (mul-one x.den i)) ∙ reduced-same x r

-- 0 is the one fraction whose numerator is 0
pub zero_of : (x : Fraction) → IsReduced x → x.num ≡ pos 0 → x ≡ zero_fraction
zero_of x r e = lowest_unique x zero_fraction r zero-reduced (times_whole x.num ∙ e ∙ sym (zero-times (pos x.den)))

-- a product with 0 as its first factor
zero_over : (d : ℕ) → (lowest (pos 0) d).num ≡ pos 0
zero_over d = ap pos (zero-div (gcd 0 d))

zero_num : (x : Fraction) → (times zero_fraction x).num ≡ pos 0
unfolding times
zero_num x = ap (λ z. (lowest z (1 * x.den)).num) (zero-times x.num) ∙ zero_over (1 * x.den)

pub zero-times_of : (x : Fraction) → 0 < x.den → times zero_fraction x ≡ zero_fraction
zero-times_of x p = zero_of (times zero_fraction x) (times-reduced zero_fraction x zero-reduced.positive p) (zero_num x)

pub plus-opposite : (x : Fraction) → IsReduced x → plus x (opposite x) ≡ zero_fraction
unfolding plus opposite
plus-opposite x r =
    lowest-cross (x.num *ℤ pos x.den +ℤ neg_ℤ x.num *ℤ pos x.den) (pos 0) (x.den * x.den) 1 (mul-pos r.positive r.positive) (omega arith) (none x.num x.den)
    ∙ reduced-same zero_fraction zero-reduced
  where
    none : (z : ℤ) (d : ℕ) → (z *ℤ pos d +ℤ neg_ℤ z *ℤ pos d) *ℤ pos 1 ≡ pos 0 *ℤ pos (d * d)
    none z d = by_one (λ z. (z *ℤ pos d +ℤ neg_ℤ z *ℤ pos d) *ℤ pos 1 ≡ pos 0 *ℤ pos (d * d))
        (λ a b. simp (← diff-pos) (simp (diff-neg, diff-product, diff-sum) (diff-same _ _ _ _ (omega arith)))) z

whole_one : (m n : ℕ) → (pos n *ℤ pos m) *ℤ pos 1 ≡ pos 1 *ℤ pos (m * n)
whole_one m n = simp (← diff-pos) (diff-same _ _ _ _ (omega arith))

negatives_one : (m n : ℕ) → (neg_ℤ (pos n) *ℤ neg_ℤ (pos m)) *ℤ pos 1 ≡ pos 1 *ℤ pos (m * n)
negatives_one m n = ap (λ z. z *ℤ pos 1) (signs (pos n) (pos m)) ∙ whole_one m n
  where
    signs : (u v : ℤ) → neg_ℤ u *ℤ neg_ℤ v ≡ u *ℤ v
    signs u v = by_two (λ u v. neg_ℤ u *ℤ neg_ℤ v ≡ u *ℤ v) (λ a b c d. simp (diff-neg, diff-product) (diff-same _ _ _ _ (omega arith))) u v

-- a fraction times one over it is one
pub times-inverse : (x : Fraction) → IsReduced x → x ≢ zero_fraction → times x (inverse x) ≡ one_fraction
unfolding inverse times
times-inverse x r h = by x.num x.den r.positive refl
  where
    by : (z : ℤ) (d : ℕ) → 0 < d → x.num ≡ z → lowest (z *ℤ (inverse_by z d).num) (d * (inverse_by z d).den) ≡ one_fraction
    by (pos zero) d p e = absurd (h (zero_of x r e))
    by (pos (suc n)) d p e = lowest-cross (pos (suc n) *ℤ pos d) (pos 1) (d * suc n) 1 (mul-pos p (omega arith)) (omega arith) (whole_one d (suc n)) ∙ reduced-same one_fraction one-reduced
    by (negsuc n) d p e = lowest-cross (negsuc n *ℤ neg_ℤ (pos d)) (pos 1) (d * suc n) 1 (mul-pos p (omega arith)) (omega arith) (negatives_one d (suc n)) ∙ reduced-same one_fraction one-reduced
