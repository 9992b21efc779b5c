-- Signs of sums, products and differences: a fraction is below 0 where its numerator is.
use Rattle.std.proofs.Common.{◌≡◌, ℕ, zero, suc, ◌/◌, ◌<◌, Bool, true, false, not, ℤ, pos, negsuc, ◌+ℤ◌, ◌*ℤ◌, ◌≤ℤ◌, ◌<ℤ◌, neg_ℤ, refl, sym, ◌∙◌, ap, subst, arith, rules, Less, Equal, Greater}
use Rattle.std.specs.Ordering.{int_cmp, MatchOrdering}
use Rattle.std.specs.declared.cmp.Ordering.{Ordering}
use Rattle.std.specs.Cmp.{int_ranks}
use Rattle.std.proofs.Math.IntN.{*ℤ_comm}
use Rattle.std.proofs.Math.Nat.{zero-div}
use Rattle.std.proofs.lemmas.Bool.{false≢true, not-true, not-false}
use Rattle.std.proofs.lemmas.Int.{ints}
use Rattle.spec_numbers.specs.Fractions.{Fraction, gcd, lowest, zero_fraction, plus, minus, times, opposite, compare, IsReduced}
use Rattle.spec_numbers.proofs.Gcd.{gcd-dvd_left, quotient_positive}
use Rattle.spec_numbers.proofs.Integers.{opposite_product}
use Rattle.spec_numbers.proofs.Lowest.{lowest_unique}
use Rattle.spec_numbers.proofs.Field.{plus-opposite}
use Rattle.spec_sorts.specs.Terms.{same_fraction}
use Rattle.spec_sorts.specs.TermValues.{is_below, less, at_most}
use Rattle.spec_sorts.proofs.SameTerms.{one_fraction}

-- The fraction is at most 0.
pub record IsAtMostZero (x : Fraction) : Type 0 where
  pub num : x.num ≤ℤ pos 0

-- The fraction is below 0.
pub record IsBelowZero (x : Fraction) : Type 0 where
  pub num : x.num <ℤ pos 0

-- products with whole numbers
scale_at_most : (z : ℤ) (n : ℕ) → z ≤ℤ pos 0 → (z *ℤ pos n) ≤ℤ pos 0
scale_at_most (pos zero) zero h = first_of (omega (arith, ints), search rules)
scale_at_most (pos zero) (suc n) h = first_of (omega (arith, ints), search rules)
scale_at_most (pos (suc m)) n h = absurd (omega (arith, ints))
scale_at_most (negsuc m) zero h = first_of (omega (arith, ints), search rules)
scale_at_most (negsuc m) (suc n) h = first_of (omega (arith, ints), search rules)

scale_below : (z : ℤ) (n : ℕ) → z <ℤ pos 0 → 0 < n → (z *ℤ pos n) <ℤ pos 0
scale_below (pos m) n h p = absurd (omega (arith, ints))
scale_below (negsuc m) zero h p = absurd (omega arith)
scale_below (negsuc m) (suc n) h p = first_of (omega (arith, ints), search rules)

-- lowest terms have the sign
lowest_at_most : (z : ℤ) (d : ℕ) → z ≤ℤ pos 0 → (lowest z d).num ≤ℤ pos 0
lowest_at_most (pos zero) d h = rw zero-div (omega (arith, ints))
lowest_at_most (pos (suc m)) d h = absurd (omega (arith, ints))
lowest_at_most (negsuc m) d h = omega (arith, ints)

lowest_below : (z : ℤ) (d : ℕ) → z <ℤ pos 0 → (lowest z d).num <ℤ pos 0
lowest_below (pos m) d h = absurd (omega (arith, ints))
lowest_below (negsuc m) d h = negative (suc m / gcd (suc m) d) (quotient_positive (suc m) _ (gcd-dvd_left (suc m) d) (omega arith))
  where
    negative : (n : ℕ) → 0 < n → neg_ℤ (pos n) <ℤ pos 0
    negative n p = omega (arith, ints)

pub zero-at_most : IsAtMostZero zero_fraction
zero-at_most = record { num = omega (arith, ints) }

pub below-at_most : (x : Fraction) → IsBelowZero x → IsAtMostZero x
below-at_most x h = record { num = weak h.num }
  where
    weak : {u : ℤ} → u <ℤ pos 0 → u ≤ℤ pos 0
    weak p = omega (arith, ints)

-- sums
pub plus-at_most : (x y : Fraction) → IsAtMostZero x → IsAtMostZero y → IsAtMostZero (plus x y)
unfolding plus
plus-at_most x y h k = record { num = lowest_at_most _ _ (sum (scale_at_most x.num y.den h.num) (scale_at_most y.num x.den k.num)) }
  where
    sum : {u v : ℤ} → u ≤ℤ pos 0 → v ≤ℤ pos 0 → (u +ℤ v) ≤ℤ pos 0
    sum p q = omega (arith, ints)

pub plus-below_left : (x y : Fraction) → IsBelowZero x → IsAtMostZero y → 0 < y.den → IsBelowZero (plus x y)
unfolding plus
plus-below_left x y h k p = record { num = lowest_below _ _ (sum (scale_below x.num y.den h.num p) (scale_at_most y.num x.den k.num)) }
  where
    sum : {u v : ℤ} → u <ℤ pos 0 → v ≤ℤ pos 0 → (u +ℤ v) <ℤ pos 0
    sum p q = omega (arith, ints)

pub plus-below_right : (x y : Fraction) → IsAtMostZero x → IsBelowZero y → 0 < x.den → IsBelowZero (plus x y)
unfolding plus
plus-below_right x y h k p = record { num = lowest_below _ _ (sum (scale_at_most x.num y.den h.num) (scale_below y.num x.den k.num p)) }
  where
    sum : {u v : ℤ} → u ≤ℤ pos 0 → v <ℤ pos 0 → (u +ℤ v) <ℤ pos 0
    sum p q = omega (arith, ints)

-- products with a factor that is not below 0
product_turned : (c z : ℤ) (n : ℕ) → c ≡ pos n → z *ℤ pos n ≡ c *ℤ z
product_turned c z n e = *ℤ_comm z (pos n) ∙ ap (λ k. k *ℤ z) (sym e)

pub times-at_most : (c x : Fraction) (n : ℕ) → c.num ≡ pos n → IsAtMostZero x → IsAtMostZero (times c x)
unfolding times
times-at_most c x n e h =
    record { num = lowest_at_most _ _ (subst (λ z. z ≤ℤ pos 0) (product_turned c.num x.num n e) (scale_at_most x.num n h.num)) }

pub times-below : (c x : Fraction) (n : ℕ) → c.num ≡ pos n → 0 < n → IsBelowZero x → IsBelowZero (times c x)
unfolding times
times-below c x n e p h =
    record { num = lowest_below _ _ (subst (λ z. z <ℤ pos 0) (product_turned c.num x.num n e) (scale_below x.num n h.num p)) }

-- what a comparison of integers tells
below_true : (u v : ℤ) → is_below (int_cmp u v) ≡ true → u <ℤ v
below_true u v e = by (int_cmp u v) (int_ranks u v) e
  where
    by : (o : Ordering) → MatchOrdering o (u <ℤ v) (u ≡ v) (v <ℤ u) → is_below o ≡ true → u <ℤ v
    by Less h e = h
    by Equal h e = absurd (false≢true e)
    by Greater h e = absurd (false≢true e)

below_false : (u v : ℤ) → is_below (int_cmp u v) ≡ false → v ≤ℤ u
below_false u v e = by (int_cmp u v) (int_ranks u v) e
  where
    by : (o : Ordering) → MatchOrdering o (u <ℤ v) (u ≡ v) (v <ℤ u) → is_below o ≡ false → v ≤ℤ u
    by Less h e = absurd (false≢true (sym e))
    by Equal h e = omega (arith, ints)
    by Greater h e = omega (arith, ints)

-- comparisons are signs of differences
difference : (u v : ℤ) (p q : ℕ) → u *ℤ pos q +ℤ neg_ℤ (v *ℤ pos p) ≡ u *ℤ pos q +ℤ neg_ℤ v *ℤ pos p
difference u v p q = ap (λ z. u *ℤ pos q +ℤ z) (sym (opposite_product v (pos p)))

pub less_true : (x y : Fraction) → less x y ≡ true → IsBelowZero (minus x y)
unfolding compare plus opposite
less_true x y e = record { num = lowest_below _ _ (subst (λ z. z <ℤ pos 0) (difference x.num y.num x.den y.den) (less_of (below_true (x.num *ℤ pos y.den) (y.num *ℤ pos x.den) e))) }
  where
    less_of : {u v : ℤ} → u <ℤ v → (u +ℤ neg_ℤ v) <ℤ pos 0
    less_of h = omega (arith, ints)

pub less_false : (x y : Fraction) → less x y ≡ false → IsAtMostZero (minus y x)
unfolding compare plus opposite
less_false x y e = record { num = lowest_at_most _ _ (subst (λ z. z ≤ℤ pos 0) (difference y.num x.num y.den x.den) (at_most_of (below_false (x.num *ℤ pos y.den) (y.num *ℤ pos x.den) e))) }
  where
    at_most_of : {u v : ℤ} → u ≤ℤ v → (u +ℤ neg_ℤ v) ≤ℤ pos 0
    at_most_of h = omega (arith, ints)

pub at_most_true : (x y : Fraction) → at_most x y ≡ true → IsAtMostZero (minus x y)
at_most_true x y e = less_false y x (not-true (less y x) e)

pub at_most_false : (x y : Fraction) → at_most x y ≡ false → IsBelowZero (minus y x)
at_most_false x y e = less_true y x (not-false (less y x) e)

pub same_true : (x y : Fraction) → IsReduced y → same_fraction x y ≡ true → minus x y ≡ zero_fraction
same_true x y r e = ap (λ z. minus z y) (one_fraction x y e) ∙ plus-opposite y r

-- numbers in order both ways are one number
pub at_most_both : (x y : Fraction) → IsReduced x → IsReduced y → at_most x y ≡ true → at_most y x ≡ true → x ≡ y
unfolding compare
at_most_both x y r q e f =
    lowest_unique x y r q (equal (below_false (y.num *ℤ pos x.den) (x.num *ℤ pos y.den) (not-true (less y x) e))
    (below_false (x.num *ℤ pos y.den) (y.num *ℤ pos x.den) (not-true (less x y) f)))
  where
    equal : {u v : ℤ} → u ≤ℤ v → v ≤ℤ u → u ≡ v
    equal h k = omega (arith, ints)

-- numbers are in order one way or the other
pub at_most_other : (x y : Fraction) → at_most x y ≡ false → at_most y x ≡ true
unfolding compare
at_most_other x y e = by (less x y) refl
  where
    apart : {u v : ℤ} → u <ℤ v → v <ℤ u → ⊥
    apart h k = omega (arith, ints)

    by : (b : Bool) → less x y ≡ b → not b ≡ true
    by false f = refl
    by true f =
        absurd (apart (below_true (x.num *ℤ pos y.den) (y.num *ℤ pos x.den) f) (below_true (y.num *ℤ pos x.den) (x.num *ℤ pos y.den) (not-false (less y x) e)))
