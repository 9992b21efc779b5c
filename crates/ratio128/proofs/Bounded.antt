-- What each exit of the code says of the bound.
use Rattle.std.proofs.Common.{◌≡◌, ℕ, ◌/◌, ◌<◌, ◌^◌, Bool, true, false, ◌&&◌, ℤ, pos, ◌+ℤ◌, ◌*ℤ◌, unsigned_abs, Option, Some, None, Result, Ok, refl, sym, ◌∙◌, ap, subst, arith}
use Rattle.std.proofs.Math.Nat.{eq-one_of_dvd-one, div-le_self}
use Rattle.std.proofs.lemmas.Bool.Decides.{Decides-ltb}
use Rattle.spec_numbers.specs.Fractions.{Fraction, gcd, lowest, over, whole, plus, times, IsReduced}
use Rattle.std.specs.Option.{ok_or}
use Rattle.spec_numbers.specs.Bounds.{is_small, fits, sum_fits, common_sum, checked}
use Rattle.spec_numbers.proofs.Gcd.{gcd-dvd_right}
use Rattle.spec_numbers.proofs.Signs.{abs-over}
use Rattle.spec_numbers.proofs.Integers.{times_whole}
use Rattle.spec_numbers.proofs.Lowest.{reduced-same}
use Rattle.ratio128.specs.declared.ratio.Ratio.{Ratio}
use Rattle.ratio128.specs.Parts.{AreParts}
use Rattle.ratio128.specs.declared.wide.Wide.{Wide}
use Rattle.ratio128.specs.Meant.{fraction, overflow, outcome, IsNarrow}

-- sizes
pub small_true : (n : ℕ) → n < 2 ^ 127 → is_small n ≡ true
unfolding is_small
small_true n h = (Decides-ltb n (2 ^ 127)).1 h

pub true_small : (n : ℕ) → is_small n ≡ true → n < 2 ^ 127
unfolding is_small
true_small n h = (Decides-ltb n (2 ^ 127)).0 h

pub small_false : (n : ℕ) → (n < 2 ^ 127 → ⊥) → is_small n ≡ false
small_false n h = by (is_small n) (λ e. h (true_small n e))
  where
    by : (b : Bool) → (b ≡ true → ⊥) → b ≡ false
    by true h = absurd (h refl)
    by false h = refl

-- one of the tests fails
second_false : (a b : Bool) → b ≡ false → (a && b) ≡ false
second_false true b e = e
second_false false b e = refl

both_true : (a b : Bool) → a ≡ true → b ≡ true → (a && b) ≡ true
both_true a b p q = (λ i. p i && q i)

-- fractions
pub fits_true : (x : Fraction) → unsigned_abs x.num < 2 ^ 127 → x.den < 2 ^ 127 → fits x ≡ true
unfolding fits
fits_true x p q = both_true _ _ (small_true _ p) (small_true _ q)

pub num_wide : (x : Fraction) → (unsigned_abs x.num < 2 ^ 127 → ⊥) → fits x ≡ false
unfolding fits
num_wide x h = ap (λ b. b && is_small x.den) (small_false _ h)

pub den_wide : (x : Fraction) → (x.den < 2 ^ 127 → ⊥) → fits x ≡ false
unfolding fits
den_wide x h = second_false _ _ (small_false _ h)

-- sums
pub left_wide : (x y : Fraction) (g : ℕ) → g ≡ gcd x.den y.den → (unsigned_abs (x.num *ℤ pos (y.den / g)) < 2 ^ 127 → ⊥) → sum_fits x y ≡ false
unfolding sum_fits
left_wide x y g e h =
    ap (λ b. (b && is_small (unsigned_abs (y.num *ℤ pos (x.den / gcd x.den y.den)))) && (is_small (unsigned_abs (common_sum x y)) && fits (plus x y)))
    (small_false _ (subst (λ g. unsigned_abs (x.num *ℤ pos (y.den / g)) < 2 ^ 127 → ⊥) e h))

pub right_wide : (x y : Fraction) (g : ℕ) → g ≡ gcd x.den y.den → (unsigned_abs (y.num *ℤ pos (x.den / g)) < 2 ^ 127 → ⊥) → sum_fits x y ≡ false
unfolding sum_fits
right_wide x y g e h =
    ap (λ b. b && (is_small (unsigned_abs (common_sum x y)) && fits (plus x y)))
    (second_false _ _ (small_false _ (subst (λ g. unsigned_abs (y.num *ℤ pos (x.den / g)) < 2 ^ 127 → ⊥) e h)))

pub total_wide : (x y : Fraction) → (unsigned_abs (common_sum x y) < 2 ^ 127 → ⊥) → sum_fits x y ≡ false
unfolding sum_fits
total_wide x y h = second_false _ _ (ap (λ b. b && fits (plus x y)) (small_false _ h))

pub result_wide : (x y : Fraction) → fits (plus x y) ≡ false → sum_fits x y ≡ false
unfolding sum_fits
result_wide x y h = second_false _ _ (second_false _ _ h)

pub sum_fits_true : (x y : Fraction) (g : ℕ) → g ≡ gcd x.den y.den → unsigned_abs (x.num *ℤ pos (y.den / g)) < 2 ^ 127 → unsigned_abs (y.num *ℤ pos (x.den / g)) < 2 ^ 127
    → unsigned_abs (common_sum x y) < 2 ^ 127 → fits (plus x y) ≡ true → sum_fits x y ≡ true
unfolding sum_fits
sum_fits_true x y g e l r t f =
    both_true _ _
    (both_true _ _ (small_true _ (subst (λ g. unsigned_abs (x.num *ℤ pos (y.den / g)) < 2 ^ 127) e l)) (small_true _ (subst (λ g. unsigned_abs (y.num *ℤ pos (x.den / g)) < 2 ^ 127) e r)))
    (both_true _ _ (small_true _ t) f)

-- whole numbers
pub coprime_to_one : (n : ℕ) → gcd n 1 ≡ 1
coprime_to_one n = eq-one_of_dvd-one (gcd-dvd_right n 1)

pub whole-reduced : (z : ℤ) → IsReduced (whole z)
whole-reduced z = record { positive = omega arith; coprime = coprime_to_one (unsigned_abs z) }

pub as_whole : (x : Fraction) → x.den ≡ 1 → x ≡ whole x.num
as_whole x e = λ i. record { num = x.num; den = e i }

pub whole_sum : (u v : ℤ) → plus (whole u) (whole v) ≡ whole (u +ℤ v)
unfolding plus
whole_sum u v = ap (λ z. lowest z 1) (λ i. times_whole u i +ℤ times_whole v i) ∙ reduced-same (whole (u +ℤ v)) (whole-reduced (u +ℤ v))

pub whole_product : (u v : ℤ) → times (whole u) (whole v) ≡ whole (u *ℤ v)
unfolding times
whole_product u v = reduced-same (whole (u *ℤ v)) (whole-reduced (u *ℤ v))

whole_common : (u v : ℤ) → common_sum (whole u) (whole v) ≡ u +ℤ v
unfolding gcd
whole_common u v = λ i. times_whole u i +ℤ times_whole v i

pub whole_sum_wide : (u v : ℤ) → (unsigned_abs (u +ℤ v) < 2 ^ 127 → ⊥) → sum_fits (whole u) (whole v) ≡ false
whole_sum_wide u v h = total_wide (whole u) (whole v) (subst (λ z. unsigned_abs z < 2 ^ 127 → ⊥) (sym (whole_common u v)) h)

pub whole_sum_fits : (u v : ℤ) → unsigned_abs u < 2 ^ 127 → unsigned_abs v < 2 ^ 127 → unsigned_abs (u +ℤ v) < 2 ^ 127 → sum_fits (whole u) (whole v) ≡ true
unfolding gcd
whole_sum_fits u v p q r =
    sum_fits_true (whole u) (whole v) 1 refl (rw times_whole p) (rw times_whole q) (rw whole_common r)
    (subst (λ x. fits x ≡ true) (sym (whole_sum u v)) (fits_true (whole (u +ℤ v)) r (omega arith)))

pub whole_product_wide : (u v : ℤ) → (unsigned_abs (u *ℤ v) < 2 ^ 127 → ⊥) → fits (times (whole u) (whole v)) ≡ false
whole_product_wide u v h = subst (λ x. fits x ≡ false) (sym (whole_product u v)) (num_wide (whole (u *ℤ v)) h)

pub whole_product_fits : (u v : ℤ) → unsigned_abs (u *ℤ v) < 2 ^ 127 → fits (times (whole u) (whole v)) ≡ true
whole_product_fits u v h = subst (λ x. fits x ≡ true) (sym (whole_product u v)) (fits_true (whole (u *ℤ v)) h (omega arith))

-- the parts that are computed
pub common_is : (x y : Fraction) (g : ℕ) (l r s : ℤ) → g ≡ gcd x.den y.den → l ≡ x.num *ℤ pos (y.den / g) → r ≡ y.num *ℤ pos (x.den / g) → s ≡ l +ℤ r
    → s ≡ common_sum x y
common_is x y g l r s e p q h = h ∙ (λ i. p i +ℤ q i) ∙ (λ i. x.num *ℤ pos (y.den / e i) +ℤ y.num *ℤ pos (x.den / e i))

-- a size over a divisor is no greater
pub over_small : (z : ℤ) (k : ℕ) → unsigned_abs z < 2 ^ 127 → unsigned_abs (over z k) < 2 ^ 127
over_small z k h = rw abs-over (omega (arith, div-le_self (unsigned_abs z) k, h))

-- fractions of the code
pub reduced : (a : Ratio) → IsReduced (fraction a)
reduced a = record { positive = a.parts.positive; coprime = a.parts.coprime }

-- what is in lowest terms and within the bound has the parts of a `Ratio`
pub parts_of : (x : Fraction) (z : ℤ) (d : ℕ) → IsReduced x → x ≡ record { num = z; den = d } → unsigned_abs z < 2 ^ 127 → d < 2 ^ 127 → AreParts z d
parts_of x z d r e p q =
    let s : IsReduced (record { num = z; den = d }) = subst IsReduced e r in
    record { positive = s.positive; coprime = s.coprime; num_fits = p; den_fits = q }

pub fits_parts : (x : Fraction) (z : ℤ) (d : ℕ) → x ≡ record { num = z; den = d } → unsigned_abs z < 2 ^ 127 → d < 2 ^ 127 → fits x ≡ true
fits_parts x z d e p q = subst (λ x. fits x ≡ true) (sym e) (fits_true (record { num = z; den = d }) p q)

-- a `Ratio` that is a whole number
pub whole_parts : (z : ℤ) → unsigned_abs z < 2 ^ 127 → AreParts z 1
whole_parts z h = record { positive = omega arith; coprime = coprime_to_one (unsigned_abs z); num_fits = h; den_fits = omega arith }

-- what an operation answers by whether there is a narrow result
pub outcome_is : (o : Option Ratio) (t : Bool) (x : Fraction) (w : Wide) (r : Result Ratio Wide) → IsNarrow o t x → r ≡ ok_or o w → outcome r ≡ checked t x (overflow w)
outcome_is None t x w r h e = ap outcome e ∙ ap (λ t. checked t x (overflow w)) (sym h)
outcome_is (Some a) t x w r h e = ap outcome e ∙ ap Ok h.1 ∙ ap (λ t. checked t x (overflow w)) (sym h.0)
