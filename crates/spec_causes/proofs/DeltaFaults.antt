-- An operation on numbers with an infinitesimal part comes to the overflow of one on fractions.
use Rattle.std.proofs.Common.{◌≡◌}
use Rattle.std.specs.Prelude.{Result, Err, IfErr}
use Rattle.spec_numbers.specs.Fractions.{Fraction}
use Rattle.spec_numbers.specs.Bounds.{Overflow, added, subtracted, multiplied, divided}
use Rattle.spec_simplex.specs.Overflows.{IsOverflow}
use Rattle.spec_simplex.proofs.Failing.{failing_in_turn, of_fault}
use Rattle.spec_simplex.proofs.Operations.{added_fails, subtracted_fails, multiplied_fails, divided_fails}
use Rattle.spec_tableaux.specs.Deltas.{Delta, both, delta_added, delta_subtracted, delta_scaled, delta_divided, delta_evaluated}

both_fail : (base tilt : Result Fraction Overflow) → IfErr base IsOverflow → IfErr tilt IsOverflow → IfErr (both base tilt) IsOverflow
both_fail base tilt h k = failing_in_turn IsOverflow base _ h (λ b. failing_in_turn IsOverflow tilt _ k (λ t. tt))

pub delta_sum_overflows : (x y : Delta) (o : Overflow) → delta_added x y ≡ Err o → IsOverflow o
unfolding delta_added
delta_sum_overflows x y o e = of_fault IsOverflow (delta_added x y) o (both_fail (added x.base y.base) (added x.tilt y.tilt) (added_fails x.base y.base) (added_fails x.tilt y.tilt)) e

pub delta_difference_overflows : (x y : Delta) (o : Overflow) → delta_subtracted x y ≡ Err o → IsOverflow o
unfolding delta_subtracted
delta_difference_overflows x y o e =
    of_fault IsOverflow (delta_subtracted x y) o (both_fail (subtracted x.base y.base) (subtracted x.tilt y.tilt) (subtracted_fails x.base y.base) (subtracted_fails x.tilt y.tilt)) e

pub delta_product_overflows : (k : Fraction) (x : Delta) (o : Overflow) → delta_scaled k x ≡ Err o → IsOverflow o
unfolding delta_scaled
delta_product_overflows k x o e = of_fault IsOverflow (delta_scaled k x) o (both_fail (multiplied k x.base) (multiplied k x.tilt) (multiplied_fails k x.base) (multiplied_fails k x.tilt)) e

pub delta_quotient_overflows : (x : Delta) (k : Fraction) (o : Overflow) → delta_divided x k ≡ Err o → IsOverflow o
unfolding delta_divided
delta_quotient_overflows x k o e = of_fault IsOverflow (delta_divided x k) o (both_fail (divided x.base k) (divided x.tilt k) (divided_fails x.base k) (divided_fails x.tilt k)) e

pub delta_value_overflows : (x : Delta) (eps : Fraction) (o : Overflow) → delta_evaluated x eps ≡ Err o → IsOverflow o
unfolding delta_evaluated
delta_value_overflows x eps o e =
    of_fault IsOverflow (delta_evaluated x eps) o
    (failing_in_turn IsOverflow (multiplied x.tilt eps) (λ product. added x.base product) (multiplied_fails x.tilt eps) (λ product. added_fails x.base product)) e
