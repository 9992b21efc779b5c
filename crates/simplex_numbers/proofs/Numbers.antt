-- Numbers of the code.
use Rattle.std.proofs.Common.{◌≡◌, pos, Result, Ok, Err, IfOk, IfErr, refl, sym, ◌∙◌, subst}
use Rattle.spec_numbers.specs.Fractions.{Fraction, whole, gcd, plus, times, inverse, divide}
use Rattle.spec_numbers.specs.Bounds.{Overflow}
use Rattle.spec_tableaux.specs.Numbers.{numbers, fractions}
use Rattle.spec_tableaux.proofs.Numbers.{number_is}
use Rattle.ratio128.specs.declared.ratio.Ratio.{Ratio}
use Rattle.ratio128.specs.declared.wide.Wide.{Wide}
use Rattle.ratio128.specs.Meant.{fraction, overflow, outcome}
use Rattle.delta_num.specs.declared.delta.Delta.{Delta}
use Rattle.spec_tableaux.specs.Deltas.{delta_evaluated, delta_at}
use Rattle.delta_num.specs.Meant.{delta}
use Rattle.delta_num.proofs.Results.{value_exact}
use Rattle.tableau.specs.Numbers.{number_of}
use Rattle.simplex_bounds.specs.Deltas.{pair_of}
use Rattle.spec_tableaux.specs.Halves.{at_number, two}

two_fraction : divide (whole (pos 2)) (whole (pos 1)) ≡ two.fraction
unfolding numbers fractions gcd plus times inverse
two_fraction = refl

pub two_is : (r : Ratio) → fraction r ≡ divide (whole (pos 2)) (whole (pos 1)) → number_of r ≡ two
two_is r e = number_is (number_of r) two (e ∙ two_fraction)

-- the value of a number with an infinitesimal part
pub value_is : (a : Delta) (e : Ratio) (r : Result Ratio Wide) → outcome r ≡ delta_evaluated (delta a) (fraction e) → IfOk r (λ q. number_of q ≡ at_number (number_of e) (pair_of a))
unfolding numbers fractions delta_at
value_is a e (Ok q) h = number_is (number_of q) (at_number (number_of e) (pair_of a)) (subst (λ (o : Result Fraction Overflow). IfOk o (λ v. v ≡ delta_at (delta a) (fraction e))) (sym h) (value_exact (delta a) (fraction e)))
value_is a e (Err w) h = tt

pub value_told : (a : Delta) (e : Ratio) (r : Result Ratio Wide) → outcome r ≡ delta_evaluated (delta a) (fraction e) → IfErr r (λ w. delta_evaluated (delta a) (fraction e) ≡ Err (overflow w))
value_told a e (Ok q) h = tt
value_told a e (Err w) h = sym h
