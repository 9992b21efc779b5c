-- Results of operations: the number of both parts, or the first overflow.
use Rattle.std.proofs.Common.{◌≡◌, Bool, true, false, pos, refl, sym, ap, ◌∙◌, subst}
use Rattle.std.specs.Prelude.{Result, Ok, Err, IfOk, IsErrAnd}
use Rattle.spec_numbers.specs.Fractions.{Fraction, gcd, whole, plus, minus, times, inverse, divide}
use Rattle.spec_numbers.specs.Bounds.{Overflow, checked, added, subtracted, multiplied, divided}
use Rattle.spec_text.specs.Answers.{◌>>=◌}
use Rattle.ratio128.specs.declared.ratio.Ratio.{Ratio}
use Rattle.ratio128.specs.declared.wide.Wide.{Wide}
use Rattle.ratio128.specs.Meant.{fraction, outcome, overflow}
use Rattle.spec_tableaux.specs.Deltas.{Delta, number, both, delta_added, delta_subtracted, delta_scaled, delta_divided, delta_evaluated, delta_plus, delta_minus, delta_times, delta_over, delta_at}
use Rattle.delta_num.specs.Meant.{delta, delta_outcome}
use Rattle.delta_num.specs.declared.delta.Delta.{Delta as Number}

-- the overflow of the base
pub base_fails : (r : Result Number Wide) (w : Wide) (base tilt : Result Fraction Overflow) → IsErrAnd r (λ e. e ≡ w) → Err (overflow w) ≡ base → delta_outcome r ≡ both base tilt
unfolding ◌>>=◌
base_fails (Ok a) w base tilt is e = absurd is
base_fails (Err v) w base tilt is e = ap (λ u. Err (overflow u)) is ∙ ap (λ b. both b tilt) e

-- the overflow of the tilt
pub tilt_fails : (r : Result Number Wide) (w : Wide) (a : Ratio) (base tilt : Result Fraction Overflow) → IsErrAnd r (λ e. e ≡ w) → Ok (fraction a) ≡ base → Err (overflow w) ≡ tilt → delta_outcome r ≡ both base tilt
unfolding ◌>>=◌
tilt_fails (Ok n) w a base tilt is h e = absurd is
tilt_fails (Err v) w a base tilt is h e = ap (λ u. Err (overflow u)) is ∙ (λ i. both (h i) (e i))

-- neither
pub both_are : (a b : Ratio) (base tilt : Result Fraction Overflow) → Ok (fraction a) ≡ base → Ok (fraction b) ≡ tilt → Ok (delta (record { base = a; tilt = b })) ≡ both base tilt
unfolding ◌>>=◌
both_are a b base tilt h e = λ i. both (h i) (e i)

-- the overflow of the product
pub product_fails : (r : Result Ratio Wide) (w : Wide) (product : Result Fraction Overflow) (x : Fraction) → IsErrAnd r (λ e. e ≡ w) → Err (overflow w) ≡ product → outcome r ≡ (product >>= λ p. added x p)
unfolding ◌>>=◌
product_fails (Ok a) w product x is e = absurd is
product_fails (Err v) w product x is e = ap (λ u. Err (overflow u)) is ∙ ap (λ p. p >>= λ v. added x v) e

-- the sum with the product
pub then_added : (r : Result Ratio Wide) (a : Ratio) (product : Result Fraction Overflow) (x : Fraction) → Ok (fraction a) ≡ product → outcome r ≡ added x (fraction a) → outcome r ≡ (product >>= λ p. added x p)
unfolding ◌>>=◌
then_added r a product x h e = e ∙ ap (λ p. p >>= λ v. added x v) h

-- no infinitesimal part
pub no_tilt : (a t : Ratio) → fraction t ≡ divide (whole (pos 0)) (whole (pos 1)) → delta (record { base = a; tilt = t }) ≡ number (fraction a)
unfolding gcd times inverse
no_tilt a t e = λ i. record { base = fraction a; tilt = e i }

-- what is checked is exact
exact_by : (fits : Bool) (x : Fraction) (o : Overflow) → IfOk (checked fits x o) (λ y. y ≡ x)
exact_by true x o = refl
exact_by false x o = tt

both_exact : (base tilt : Result Fraction Overflow) (b t : Fraction) → IfOk base (λ x. x ≡ b) → IfOk tilt (λ x. x ≡ t) → IfOk (both base tilt) (λ z. z ≡ record { base = b; tilt = t })
unfolding ◌>>=◌
both_exact (Ok x) (Ok y) b t p q = λ i. record { base = p i; tilt = q i }
both_exact (Ok x) (Err o) b t p q = tt
both_exact (Err o) tilt b t p q = tt

added_exact : (x y : Fraction) → IfOk (added x y) (λ z. z ≡ plus x y)
unfolding added
added_exact x y = exact_by _ _ _

pub sum_exact : (x y : Delta) → IfOk (delta_added x y) (λ z. z ≡ delta_plus x y)
unfolding delta_added delta_plus
sum_exact x y = both_exact (added x.base y.base) (added x.tilt y.tilt) (plus x.base y.base) (plus x.tilt y.tilt) (added_exact x.base y.base) (added_exact x.tilt y.tilt)

subtracted_exact : (x y : Fraction) → IfOk (subtracted x y) (λ z. z ≡ minus x y)
unfolding subtracted
subtracted_exact x y = exact_by _ _ _

pub difference_exact : (x y : Delta) → IfOk (delta_subtracted x y) (λ z. z ≡ delta_minus x y)
unfolding delta_subtracted delta_minus
difference_exact x y = both_exact (subtracted x.base y.base) (subtracted x.tilt y.tilt) (minus x.base y.base) (minus x.tilt y.tilt) (subtracted_exact x.base y.base) (subtracted_exact x.tilt y.tilt)

multiplied_exact : (x y : Fraction) → IfOk (multiplied x y) (λ z. z ≡ times x y)
unfolding multiplied
multiplied_exact x y = exact_by _ _ _

pub product_exact : (k : Fraction) (x : Delta) → IfOk (delta_scaled k x) (λ z. z ≡ delta_times k x)
unfolding delta_scaled delta_times
product_exact k x = both_exact (multiplied k x.base) (multiplied k x.tilt) (times k x.base) (times k x.tilt) (multiplied_exact k x.base) (multiplied_exact k x.tilt)

divided_exact : (x y : Fraction) → IfOk (divided x y) (λ z. z ≡ divide x y)
unfolding divided
divided_exact x y = exact_by _ _ _

pub quotient_exact : (x : Delta) (k : Fraction) → IfOk (delta_divided x k) (λ z. z ≡ delta_over x k)
unfolding delta_divided delta_over
quotient_exact x k = both_exact (divided x.base k) (divided x.tilt k) (divide x.base k) (divide x.tilt k) (divided_exact x.base k) (divided_exact x.tilt k)

value_by : (b : Fraction) (r : Result Fraction Overflow) (q : Fraction) → IfOk r (λ p. p ≡ q) → IfOk (r >>= λ p. added b p) (λ v. v ≡ plus b q)
unfolding ◌>>=◌
value_by b (Ok p) q e = subst (λ p. IfOk (added b p) (λ v. v ≡ plus b q)) (sym e) (added_exact b q)
value_by b (Err o) q e = tt

pub value_exact : (x : Delta) (eps : Fraction) → IfOk (delta_evaluated x eps) (λ v. v ≡ delta_at x eps)
unfolding delta_evaluated delta_at
value_exact x eps = value_by x.base (multiplied x.tilt eps) (times x.tilt eps) (multiplied_exact x.tilt eps)
