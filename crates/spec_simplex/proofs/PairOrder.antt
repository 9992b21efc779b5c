-- Values compare with 0 as they do in the order of pairs.
use Rattle.std.proofs.Common.{◌≡◌, ◌↔◌, Bool, true, false, ◌&&◌, ◌||◌, cond, ℤ, pos, neg_ℤ, refl, sym, ◌∙◌, ap, arith}
use Rattle.std.specs.Ordering.{int_eq}
use Rattle.std.specs.Int.RustNames.{int_lt}
use Rattle.std.proofs.lemmas.Bool.{and_parts}
use Rattle.std.proofs.lemmas.Bool.Decides.{nat_tests}
use Rattle.spec_numbers.specs.Fractions.{Fraction, zero_fraction, plus, opposite, IsReduced}
use Rattle.spec_numbers.proofs.Field.{plus-zero, opposite-reduced}
use Rattle.spec_arithmetic.specs.Signs.{is_zero, is_above_zero}
use Rattle.spec_arithmetic.proofs.Zero.{plus-zero_left, opposite-zero}
use Rattle.spec_tableaux.specs.Spaces.{Pair, pairs}
use Rattle.spec_tableaux.specs.Numbers.{Number, numbers, fractions}
use Rattle.spec_tableaux.proofs.Numbers.{number_is}
use Rattle.spec_simplex.specs.Constraints.{below, equals, above}
use Rattle.spec_simplex.specs.Points.{is_below_zero, is_over, is_under, relates}
use Rattle.spec_simplex.proofs.PairSigns.{zero_is}

-- comparisons with 0
less_zero : (x : Fraction) → IsReduced x → int_lt (plus x (opposite zero_fraction)).num (pos 0) ≡ is_below_zero x
unfolding is_below_zero
less_zero x r = ap (λ (q : Fraction). int_lt q.num (pos 0)) (ap (plus x) opposite-zero ∙ plus-zero x r)

zero_less : (x : Fraction) → IsReduced x → int_lt (plus zero_fraction (opposite x)).num (pos 0) ≡ is_above_zero x
unfolding is_above_zero opposite
zero_less x r = ap (λ (q : Fraction). int_lt q.num (pos 0)) (plus-zero_left (opposite x) (opposite-reduced x r)) ∙ turned x.num
  where
    turned : (z : ℤ) → int_lt (neg_ℤ z) (pos 0) ≡ int_lt (pos 0) z
    turned z = grind (arith, nat_tests)

-- a base on one side of 0 decides, and else the tilt does
by_base : (z : ℤ) (t : Bool) → cond (int_lt z (pos 0)) true (cond (int_lt (pos 0) z) false t) ≡ int_lt z (pos 0) || (int_eq z (pos 0) && t)
by_base z t = by (int_lt z (pos 0)) refl (int_lt (pos 0) z) refl
  where
    none : int_lt z (pos 0) ≡ false → int_lt (pos 0) z ≡ true → int_eq z (pos 0) ≡ false
    none e f = grind (arith, nat_tests)

    level : int_lt z (pos 0) ≡ false → int_lt (pos 0) z ≡ false → int_eq z (pos 0) ≡ true
    level e f = grind (arith, nat_tests)

    by : (b : Bool) → int_lt z (pos 0) ≡ b → (a : Bool) → int_lt (pos 0) z ≡ a → cond b true (cond a false t) ≡ b || (int_eq z (pos 0) && t)
    by true e a f = refl
    by false e true f = λ i. sym (none e f) i && t
    by false e false f = λ i. sym (level e f) i && t

by_base_over : (z : ℤ) (t : Bool) → cond (int_lt (pos 0) z) true (cond (int_lt z (pos 0)) false t) ≡ int_lt (pos 0) z || (int_eq z (pos 0) && t)
by_base_over z t = by (int_lt (pos 0) z) refl (int_lt z (pos 0)) refl
  where
    none : int_lt (pos 0) z ≡ false → int_lt z (pos 0) ≡ true → int_eq z (pos 0) ≡ false
    none e f = grind (arith, nat_tests)

    level : int_lt (pos 0) z ≡ false → int_lt z (pos 0) ≡ false → int_eq z (pos 0) ≡ true
    level e f = grind (arith, nat_tests)

    by : (b : Bool) → int_lt (pos 0) z ≡ b → (a : Bool) → int_lt z (pos 0) ≡ a → cond b true (cond a false t) ≡ b || (int_eq z (pos 0) && t)
    by true e a f = refl
    by false e true f = λ i. sym (none e f) i && t
    by false e false f = λ i. sym (level e f) i && t

pub relates_below : (x : Pair Number) → relates below x.base.fraction x.tilt.fraction ≡ (pairs numbers).less x (pairs numbers).origin
unfolding numbers fractions is_under is_below_zero is_above_zero is_zero
relates_below x =
    sym (by_base x.base.fraction.num (is_below_zero x.tilt.fraction))
    ∙ (λ i. cond (sym (less_zero x.base.fraction x.base.reduced) i) true
    (cond (sym (zero_less x.base.fraction x.base.reduced) i) false (sym (less_zero x.tilt.fraction x.tilt.reduced) i)))

pub relates_above : (x : Pair Number) → relates above x.base.fraction x.tilt.fraction ≡ (pairs numbers).less (pairs numbers).origin x
unfolding numbers fractions is_over is_below_zero is_above_zero is_zero
relates_above x =
    sym (by_base_over x.base.fraction.num (is_above_zero x.tilt.fraction))
    ∙ (λ i. cond (sym (zero_less x.base.fraction x.base.reduced) i) true
    (cond (sym (less_zero x.base.fraction x.base.reduced) i) false (sym (zero_less x.tilt.fraction x.tilt.reduced) i)))

pub relates_equals : (x : Pair Number) → (relates equals x.base.fraction x.tilt.fraction ≡ true) ↔ (x ≡ (pairs numbers).origin)
unfolding numbers fractions is_zero
relates_equals x = (there, back)
  where
    there : relates equals x.base.fraction x.tilt.fraction ≡ true → x ≡ (pairs numbers).origin
    there e =
        let parts = and_parts (is_zero x.base.fraction) (is_zero x.tilt.fraction) e in
        let base = number_is x.base (pairs numbers).origin.base (zero_is x.base.fraction x.base.reduced parts.0) in
        let tilt = number_is x.tilt (pairs numbers).origin.tilt (zero_is x.tilt.fraction x.tilt.reduced parts.1) in
        λ i. record { base = base i; tilt = tilt i }

    back : x ≡ (pairs numbers).origin → relates equals x.base.fraction x.tilt.fraction ≡ true
    back e = ap (λ (y : Pair Number). relates equals y.base.fraction y.tilt.fraction) e
