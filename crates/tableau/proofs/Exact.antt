-- What an operation within the bound says of its result.
use Rattle.std.proofs.Common.{◌≡◌, IfOk, IfErr, Result, Ok, Err, refl, sym, ◌∙◌, Bool, true, false, ◌↔◌, IsTrue, ap, pos}
use Rattle.std.specs.Bool.{Decides}
use Rattle.ratio128.specs.declared.ratio.Ratio.{Ratio}
use Rattle.ratio128.specs.declared.wide.Wide.{Wide}
use Rattle.ratio128.specs.Meant.{fraction, overflow, outcome}
use Rattle.spec_numbers.specs.Fractions.{Fraction, zero_fraction}
use Rattle.spec_numbers.proofs.Field.{zero_of}
use Rattle.spec_numbers.specs.Bounds.{Overflow, checked}
use Rattle.spec_tableaux.specs.Numbers.{Number}
use Rattle.spec_tableaux.proofs.Numbers.{number_is}
use Rattle.tableau.specs.Numbers.{number_of}

ok_of : Result Fraction Overflow → Fraction → Fraction
ok_of (Ok x) y = x
ok_of (Err o) y = y

pub exact : (r : Result Ratio Wide) (t : Bool) (f : Fraction) (o : Overflow) (n : Number) → f ≡ n.fraction → outcome r ≡ checked t f o → IfOk r (λ x. number_of x ≡ n)
unfolding ok_of
exact (Ok x) true f o n e h = number_is (number_of x) n ((λ i. ok_of (h i) f) ∙ e)
exact (Ok x) false f o n e h = absurd (cc)
exact (Err w) t f o n e h = tt

pub told : (r : Result Ratio Wide) (m : Result Fraction Overflow) → outcome r ≡ m → IfErr r (λ w. m ≡ Err (overflow w))
told (Ok x) m h = tt
told (Err w) m h = sym h

-- two tests of one fact
pub one_test : (p q : Bool) (P : Type 0) → IsTrue p ↔ P → Decides q P → p ≡ q
one_test true true P h d = refl
one_test true false P h d = absurd (let k = d.1 (h.0 refl) in cc)
one_test false true P h d = absurd (let k = h.1 (d.0 refl) in cc)
one_test false false P h d = refl

-- a fraction is 0 where its numerator is
pub zero_test : (a : Ratio) (b : Bool) → IsTrue b ↔ (fraction a ≡ zero_fraction) → IsTrue b ↔ (a.num ≡ pos 0)
zero_test a b h = (λ t. ap (λ (x : Fraction). x.num) (h.0 t), λ e. h.1 (zero_of (fraction a) (number_of a).reduced e))
