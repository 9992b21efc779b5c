-- The order of numbers with an infinitesimal part, and that results are in lowest terms.
use Rattle.std.proofs.Common.{◌≡◌, ◌<◌, refl, sym, ap, ◌∙◌, true≢false, Less, Equal, Greater}
use Rattle.std.specs.Ordering.{is_lt, is_gt, ordering_then, ordering_reverse}
use Rattle.std.specs.declared.cmp.Ordering.{Ordering}
use Rattle.std.specs.Cmp.{then_flip}
use Rattle.spec_numbers.specs.Fractions.{Fraction, IsReduced, times, compare}
use Rattle.spec_numbers.proofs.Field.{plus-reduced, times-reduced, inverse-reduced, times-comm, minus-reduced}
use Rattle.spec_numbers.proofs.Order.{compare-equal, compare-reversed, compare-trans, compare-plus, compare-times}
use Rattle.spec_tableaux.specs.Deltas.{Delta, AreReduced, IsPositive, delta_plus, delta_minus, delta_times, delta_over, delta_at, delta_compare}

-- lowest terms

pub sum_reduced : (x y : Delta) → AreReduced x → AreReduced y → AreReduced (delta_plus x y)
unfolding delta_plus
sum_reduced x y r q = record {
  base_reduced = plus-reduced x.base y.base r.base_reduced.positive q.base_reduced.positive;
  tilt_reduced = plus-reduced x.tilt y.tilt r.tilt_reduced.positive q.tilt_reduced.positive;
}

pub difference_reduced : (x y : Delta) → AreReduced x → AreReduced y → AreReduced (delta_minus x y)
unfolding delta_minus
difference_reduced x y r q = record {
  base_reduced = minus-reduced x.base y.base r.base_reduced q.base_reduced;
  tilt_reduced = minus-reduced x.tilt y.tilt r.tilt_reduced q.tilt_reduced;
}

pub product_reduced : (k : Fraction) (x : Delta) → IsReduced k → AreReduced x → AreReduced (delta_times k x)
unfolding delta_times
product_reduced k x r q = record {
  base_reduced = times-reduced k x.base r.positive q.base_reduced.positive;
  tilt_reduced = times-reduced k x.tilt r.positive q.tilt_reduced.positive;
}

pub quotient_reduced : (x : Delta) (k : Fraction) → AreReduced x → IsReduced k → AreReduced (delta_over x k)
unfolding delta_over
quotient_reduced x k r q = record {
  base_reduced = times-reduced x.base _ r.base_reduced.positive (inverse-reduced k q).positive;
  tilt_reduced = times-reduced x.tilt _ r.tilt_reduced.positive (inverse-reduced k q).positive;
}

pub value_reduced : (x : Delta) (eps : Fraction) → AreReduced x → IsReduced eps → IsReduced (delta_at x eps)
unfolding delta_at
value_reduced x eps r q = plus-reduced x.base _ r.base_reduced.positive (times-reduced x.tilt eps r.tilt_reduced.positive q.positive).positive

-- the order
both_equal : (b t : Ordering) → ordering_then b t ≡ Equal → (b ≡ Equal) × (t ≡ Equal)
both_equal Less t e = absurd (true≢false (ap is_lt e))
both_equal Equal t e = (refl, e)
both_equal Greater t e = absurd (true≢false (ap is_gt e))

pub order_equal : (x y : Delta) → AreReduced x → AreReduced y → delta_compare x y ≡ Equal → x ≡ y
unfolding delta_compare
order_equal x y r q e =
    let parts = both_equal (compare x.base y.base) (compare x.tilt y.tilt) e in
    same x y (compare-equal x.base y.base r.base_reduced q.base_reduced parts.0) (compare-equal x.tilt y.tilt r.tilt_reduced q.tilt_reduced parts.1)
  where
    same : (x y : Delta) → x.base ≡ y.base → x.tilt ≡ y.tilt → x ≡ y
    same x y b t = λ i. record { base = b i; tilt = t i }

pub order_reversed : (x y : Delta) → delta_compare x y ≡ ordering_reverse (delta_compare y x)
unfolding delta_compare
order_reversed x y =
    (λ i. ordering_then (compare-reversed x.base y.base i) (compare-reversed x.tilt y.tilt i))
    ∙ then_flip (compare y.base x.base) (compare y.tilt x.tilt)

pub order_transitive : (x y z : Delta) → AreReduced x → AreReduced y → AreReduced z → delta_compare x y ≡ Less → delta_compare y z ≡ Less → delta_compare x z ≡ Less
unfolding delta_compare
order_transitive x y z r q p = by (compare x.base y.base) (compare y.base z.base) refl refl
  where
    tilts : compare x.tilt y.tilt ≡ Less → compare y.tilt z.tilt ≡ Less → compare x.tilt z.tilt ≡ Less
    tilts = compare-trans x.tilt y.tilt z.tilt r.tilt_reduced.positive q.tilt_reduced.positive p.tilt_reduced.positive

    less : compare x.base z.base ≡ Less → ordering_then (compare x.base z.base) (compare x.tilt z.tilt) ≡ Less
    less e = ap (λ o. ordering_then o (compare x.tilt z.tilt)) e

    right : compare y.base z.base ≡ Equal → compare x.base z.base ≡ compare x.base y.base
    right e = ap (compare x.base) (sym (compare-equal y.base z.base q.base_reduced p.base_reduced e))

    left : compare x.base y.base ≡ Equal → compare x.base z.base ≡ compare y.base z.base
    left e = ap (λ b. compare b z.base) (compare-equal x.base y.base r.base_reduced q.base_reduced e)

    by : (a b : Ordering) → compare x.base y.base ≡ a → compare y.base z.base ≡ b
        → ordering_then a (compare x.tilt y.tilt) ≡ Less → ordering_then b (compare y.tilt z.tilt) ≡ Less
        → ordering_then (compare x.base z.base) (compare x.tilt z.tilt) ≡ Less
    by Greater b m n h k = absurd (true≢false (ap is_gt h))
    by Less Less m n h k = less (compare-trans x.base y.base z.base r.base_reduced.positive q.base_reduced.positive p.base_reduced.positive m n)
    by Less Equal m n h k = less (right n ∙ m)
    by Less Greater m n h k = absurd (true≢false (ap is_gt k))
    by Equal Less m n h k = less (left m ∙ n)
    by Equal Equal m n h k = ap (λ o. ordering_then o (compare x.tilt z.tilt)) (left m ∙ n) ∙ tilts h k
    by Equal Greater m n h k = absurd (true≢false (ap is_gt k))

pub order_sum : (x y z : Delta) → AreReduced x → AreReduced y → AreReduced z → delta_compare (delta_plus x z) (delta_plus y z) ≡ delta_compare x y
unfolding delta_compare delta_plus
order_sum x y z r q p = λ i. ordering_then
    (compare-plus x.base y.base z.base r.base_reduced.positive q.base_reduced.positive p.base_reduced.positive i)
    (compare-plus x.tilt y.tilt z.tilt r.tilt_reduced.positive q.tilt_reduced.positive p.tilt_reduced.positive i)

compare-times_left : (k x y : Fraction) → IsPositive k → 0 < x.den → 0 < y.den → compare (times k x) (times k y) ≡ compare x y
compare-times_left k x y p r q = (λ i. compare (times-comm k x i) (times-comm k y i)) ∙ compare-times x y k r q p.reduced.positive p.above

pub order_product : (k : Fraction) (x y : Delta) → IsPositive k → AreReduced x → AreReduced y → delta_compare (delta_times k x) (delta_times k y) ≡ delta_compare x y
unfolding delta_compare delta_times
order_product k x y p r q = λ i. ordering_then
    (compare-times_left k x.base y.base p r.base_reduced.positive q.base_reduced.positive i)
    (compare-times_left k x.tilt y.tilt p r.tilt_reduced.positive q.tilt_reduced.positive i)
