-- How the values of two numbers compare where epsilon is a fraction.
use Rattle.std.proofs.Common.{◌≡◌, ◌<◌, pos, ◌*ℤ◌, sym, ap, ◌∙◌, Equal}
use Rattle.std.specs.Ordering.{ordering_then}
use Rattle.std.specs.Cmp.{tied_itself}
use Rattle.std.proofs.lemmas.Cmp.{int_cmp_total}
use Rattle.spec_numbers.specs.Fractions.{Fraction, IsReduced, plus, minus, opposite, times, compare}
use Rattle.spec_numbers.proofs.Field.{plus-comm, plus-cross, plus-zero, plus-opposite, plus-reduced, times-assoc, times-plus, times-plus_left, times-reduced, opposite-times, minus-reduced, zero-times_of}
use Rattle.spec_numbers.proofs.Order.{compare-plus, compare-times}
use Rattle.spec_tableaux.specs.Deltas.{Delta, AreReduced, IsPositive, number, delta_plus, delta_times, delta_at, delta_compare}

-- values of a fraction, of sums and of products

pub number_value : (x eps : Fraction) → IsReduced x → IsReduced eps → delta_at (number x) eps ≡ x
unfolding delta_at
number_value x eps r p = ap (plus x) (zero-times_of eps p.positive) ∙ plus-zero x r

pub sum_value : (x y : Delta) (eps : Fraction) → IsReduced eps → delta_at (delta_plus x y) eps ≡ plus (delta_at x eps) (delta_at y eps)
unfolding delta_at delta_plus
sum_value x y eps p =
    ap (plus (plus x.base y.base)) (times-plus x.tilt y.tilt eps p.positive)
    ∙ plus-cross x.base y.base (times x.tilt eps) (times y.tilt eps)

pub product_value : (k : Fraction) (x : Delta) (eps : Fraction) → IsReduced k → delta_at (delta_times k x) eps ≡ times k (delta_at x eps)
unfolding delta_at delta_times
product_value k x eps p =
    ap (plus (times k x.base)) (times-assoc k x.tilt eps)
    ∙ sym (times-plus_left x.base (times x.tilt eps) k p.positive)

-- s - t and a + t is a + s
cancelled : (s t a : Fraction) → IsReduced s → IsReduced t → IsReduced a → plus (minus s t) (plus a t) ≡ plus a s
cancelled s t a rs rt ra =
    plus-cross s (opposite t) a t
    ∙ ap (plus (plus s a)) (plus-comm (opposite t) t ∙ plus-opposite t rt)
    ∙ plus-zero (plus s a) (plus-reduced s a rs.positive ra.positive)
    ∙ plus-comm s a

-- a + s against b + t is s - t against b - a
crossed : (a b s t : Fraction) → IsReduced a → IsReduced b → IsReduced s → IsReduced t → compare (plus a s) (plus b t) ≡ compare (minus s t) (minus b a)
crossed a b s t ra rb rs rt =
    (λ i. compare (sym (cancelled s t a rs rt ra) i) (sym second i))
    ∙ compare-plus (minus s t) (minus b a) (plus a t) (minus-reduced s t rs rt).positive (minus-reduced b a rb ra).positive (plus-reduced a t ra.positive rt.positive).positive
  where
    second : plus (minus b a) (plus a t) ≡ plus b t
    second = ap (plus (minus b a)) (plus-comm a t) ∙ cancelled b a t rb ra rt ∙ plus-comm t b

difference_times : (s t k : Fraction) → 0 < k.den → minus (times s k) (times t k) ≡ times (minus s t) k
difference_times s t k p = ap (plus (times s k)) (opposite-times t k) ∙ sym (times-plus s (opposite t) k p)

pub values_compare : (x y : Delta) (eps : Fraction) → AreReduced x → AreReduced y → IsReduced eps
    → compare (delta_at x eps) (delta_at y eps) ≡ compare (times (minus x.tilt y.tilt) eps) (minus y.base x.base)
unfolding delta_at
values_compare x y eps r q p =
    crossed x.base y.base (times x.tilt eps) (times y.tilt eps) r.base_reduced q.base_reduced
    (times-reduced x.tilt eps r.tilt_reduced.positive p.positive) (times-reduced y.tilt eps q.tilt_reduced.positive p.positive)
    ∙ ap (λ d. compare d (minus y.base x.base)) (difference_times x.tilt y.tilt eps p.positive)

pub compare-itself : (x : Fraction) → compare x x ≡ Equal
unfolding compare
compare-itself x = tied_itself int_cmp_total (x.num *ℤ pos x.den)

pub one_base : (x y : Delta) (eps : Fraction) → AreReduced x → AreReduced y → IsPositive eps → x.base ≡ y.base
    → compare (delta_at x eps) (delta_at y eps) ≡ delta_compare x y
unfolding delta_at delta_compare
one_base x y eps r q p e =
    (λ i. compare (plus-comm x.base (times x.tilt eps) i) ((plus-comm y.base (times y.tilt eps) ∙ ap (plus (times y.tilt eps)) (sym e)) i))
    ∙ compare-plus (times x.tilt eps) (times y.tilt eps) x.base
    (times-reduced x.tilt eps r.tilt_reduced.positive p.reduced.positive).positive
    (times-reduced y.tilt eps q.tilt_reduced.positive p.reduced.positive).positive
    r.base_reduced.positive
    ∙ compare-times x.tilt y.tilt eps r.tilt_reduced.positive q.tilt_reduced.positive p.reduced.positive p.above
    ∙ ap (λ o. ordering_then o (compare x.tilt y.tilt)) (sym (ap (compare x.base) (sym e) ∙ compare-itself x.base))
