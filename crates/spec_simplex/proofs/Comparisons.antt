-- Numbers compare as their difference does with 0.
use Rattle.std.proofs.Common.{◌≡◌, ◌↔◌, Bool, true, false, not, List, Ok, ◌&&◌, ◌||◌, ℤ, pos, ◌<ℤ◌, ◌≤ℤ◌, neg_ℤ, refl, sym, ◌∙◌, ap, subst, arith}
use Rattle.std.specs.Int.RustNames.{int_lt}
use Rattle.std.proofs.lemmas.Bool.{and_parts}
use Rattle.std.proofs.lemmas.Bool.Decides.{nat_tests}
use Rattle.spec_numbers.specs.Fractions.{Fraction, zero_fraction, minus, opposite, IsReduced}
use Rattle.spec_numbers.proofs.Field.{plus-opposite}
use Rattle.spec_sorts.specs.Terms.{Symbol, Term}
use Rattle.spec_sorts.specs.TermValues.{less}
use Rattle.spec_arithmetic.specs.Signs.{is_zero, is_above_zero}
use Rattle.spec_arithmetic.specs.Forms.{Form, form_value}
use Rattle.spec_arithmetic.specs.Numbers.{number_at, IsLinearOver}
use Rattle.spec_arithmetic.proofs.Differences.{less_true, less_false, at_most_both}
use Rattle.spec_arithmetic.proofs.FormNumbers.{number_reduced}
use Rattle.spec_arithmetic.proofs.Linear.{difference_number}
use Rattle.spec_simplex.specs.Constraints.{Relation, below, at_most, equals, at_least, above, Constraint, form_of}
use Rattle.spec_simplex.specs.Points.{is_below_zero, is_over, is_under, relates}
use Rattle.spec_simplex.specs.Numbers.{Compares}
use Rattle.spec_simplex.proofs.PairSigns.{zero_is}
use Rattle.spec_simplex.proofs.Reversed.{turned}

-- a difference is below 0 where the first number is less, and above 0 where the second is
opposite_num : (x y : Fraction) → (minus y x).num ≤ℤ pos 0 → neg_ℤ (minus x y).num ≤ℤ pos 0
unfolding opposite
opposite_num x y h = subst (λ (q : Fraction). q.num ≤ℤ pos 0) (turned x y) h

less_below : (x y : Fraction) → less x y ≡ is_below_zero (minus x y)
unfolding is_below_zero
less_below x y = by (less x y) refl
  where
    under : (z : ℤ) → z <ℤ pos 0 → int_lt z (pos 0) ≡ true
    under z h = grind (arith, nat_tests)

    level : (z : ℤ) → neg_ℤ z ≤ℤ pos 0 → int_lt z (pos 0) ≡ false
    level z h = grind (arith, nat_tests)

    by : (b : Bool) → less x y ≡ b → b ≡ int_lt (minus x y).num (pos 0)
    by true e = sym (under (minus x y).num (less_true x y e).num)
    by false e = sym (level (minus x y).num (opposite_num x y (less_false x y e).num))

less_above : (x y : Fraction) → less y x ≡ is_above_zero (minus x y)
unfolding is_below_zero is_above_zero opposite
less_above x y = less_below y x ∙ ap is_below_zero (turned x y) ∙ signs (minus x y).num
  where
    signs : (z : ℤ) → int_lt (neg_ℤ z) (pos 0) ≡ int_lt (pos 0) z
    signs z = grind (arith, nat_tests)

-- without a tilt the base decides
base_alone : (a b : Bool) → a || (b && false) ≡ a
base_alone true b = refl
base_alone false true = refl
base_alone false false = refl

under_alone : (x : Fraction) → is_under x zero_fraction ≡ is_below_zero x
unfolding is_under is_below_zero
under_alone x = base_alone (int_lt x.num (pos 0)) (is_zero x)

over_alone : (x : Fraction) → is_over x zero_fraction ≡ is_above_zero x
unfolding is_over is_above_zero
over_alone x = base_alone (int_lt (pos 0) x.num) (is_zero x)

-- a test that is another one
exchanged : (a b : Bool) → a ≡ b → (a ≡ true) ↔ (b ≡ true)
exchanged a b e = (λ h. sym e ∙ h, λ h. e ∙ h)

pub compared : (r : Relation) (x y : Fraction) → IsReduced x → IsReduced y → IsReduced (minus x y) → Compares r x y ↔ (relates r (minus x y) zero_fraction ≡ true)
unfolding is_zero is_below_zero is_above_zero
compared below x y rx ry rd = exchanged _ _ (less_below x y ∙ sym (under_alone (minus x y)))
compared at_most x y rx ry rd = exchanged _ _ (ap not (less_above x y ∙ sym (over_alone (minus x y))))
compared at_least x y rx ry rd = exchanged _ _ (ap not (less_below x y ∙ sym (under_alone (minus x y))))
compared above x y rx ry rd = exchanged _ _ (less_above x y ∙ sym (over_alone (minus x y)))
compared equals x y rx ry rd = (there, back)
  where
    there : x ≡ y → is_zero (minus x y) && is_zero zero_fraction ≡ true
    there e = ap (λ q. is_zero q && is_zero zero_fraction) (ap (λ z. minus z y) e ∙ plus-opposite y ry)

    back : is_zero (minus x y) && is_zero zero_fraction ≡ true → x ≡ y
    back e =
        let none : minus x y ≡ zero_fraction = zero_is (minus x y) rd (and_parts _ _ e).0 in
        at_most_both x y rx ry (ap not (less_above x y ∙ ap is_above_zero none)) (ap not (less_below x y ∙ ap is_below_zero none))

-- so the sides of a constraint compare as the value of its form does with 0
pub sides_compared : (symbols : List Symbol) (n : Term → Fraction) (c : Constraint) (f : Form) → ((t : Term) → IsReduced (n t)) → IsLinearOver symbols c.left → IsLinearOver symbols c.right → form_of c ≡ Ok f
    → Compares c.relation (number_at n c.left) (number_at n c.right) ↔ (relates c.relation (form_value n f) zero_fraction ≡ true)
sides_compared symbols n c f reduced l r e =
    let d = difference_number symbols n reduced c.atom c.left c.right f e l r in
    let x = number_at n c.left in
    let y = number_at n c.right in
    subst (λ q. Compares c.relation x y ↔ (relates c.relation q zero_fraction ≡ true)) (sym d.0)
    (compared c.relation x y (number_reduced symbols n reduced c.left (record { term = l.term; sort = l.sort }))
    (number_reduced symbols n reduced c.right (record { term = r.term; sort = r.sort })) (subst IsReduced d.0 d.1))
