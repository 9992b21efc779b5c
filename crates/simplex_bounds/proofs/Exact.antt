-- What results of operations on numbers with an infinitesimal part say of their pairs.
use Rattle.std.proofs.Common.{◌≡◌, ap, ◌∙◌, sym, subst}
use Rattle.std.specs.Prelude.{Result, Ok, Err, IfOk}
use Rattle.spec_numbers.specs.Fractions.{plus, minus}
use Rattle.spec_numbers.specs.Bounds.{Overflow}
use Rattle.ratio128.specs.declared.wide.Wide.{Wide}
use Rattle.spec_tableaux.specs.Deltas as parts
use Rattle.delta_num.specs.Meant.{delta, delta_outcome}
use Rattle.delta_num.specs.declared.delta.Delta.{Delta}
use Rattle.spec_tableaux.specs.Spaces.{Pair}
use Rattle.spec_tableaux.specs.Numbers.{Number, numbers, fractions}
use Rattle.spec_tableaux.proofs.Numbers.{number_is, numbers_are_ordered_field}
use Rattle.spec_tableaux.proofs.Signs.{opposite_is}
use Rattle.tableau.specs.Numbers.{number_of}
use Rattle.simplex_bounds.specs.Deltas.{pair_of}

-- the number is the pair of two whose fractions are its parts
pub pair_is : (d : Delta) (p : Pair Number) → delta d ≡ record { base = p.base.fraction; tilt = p.tilt.fraction } → pair_of d ≡ p
pair_is d p e = λ i. record { base = number_is (number_of d.base) p.base (ap (λ (x : parts.Delta). x.base) e) i; tilt = number_is (number_of d.tilt) p.tilt (ap (λ (x : parts.Delta). x.tilt) e) i }

-- a result that is the exact one, of which the pair has the parts
pub exact : (r : Result Delta Wide) (o : Result parts.Delta Overflow) (x : parts.Delta) (p : Pair Number) → delta_outcome r ≡ o → IfOk o (λ z. z ≡ x) → x ≡ record { base = p.base.fraction; tilt = p.tilt.fraction } → IfOk r (λ d. pair_of d ≡ p)
exact (Ok d) o x p e f g = pair_is d p (subst (λ (o : Result parts.Delta Overflow). IfOk o (λ z. z ≡ x)) (sym e) f ∙ g)
exact (Err w) o x p e f g = tt

-- a difference is the sum with minus one times the other
pub minus_is : (x y : Number) → minus x.fraction y.fraction ≡ (numbers.plus x (numbers.times (numbers.opposite numbers.one) y)).fraction
unfolding numbers fractions
minus_is x y = ap (λ (n : Number). plus x.fraction n.fraction) (opposite_is numbers numbers_are_ordered_field y)
