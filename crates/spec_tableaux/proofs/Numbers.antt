-- Fractions in lowest terms are an ordered field.
use Rattle.std.proofs.Common.{◌≡◌, ◌≢◌, ◌<◌, true, false, ℤ, pos, ◌<ℤ◌, ◌≤ℤ◌, neg_ℤ, refl, sym, ◌∙◌, ap, subst, arith, Less}
use Rattle.std.specs.Int.RustNames.{int_lt}
use Rattle.std.specs.Ordering.{int_eq, int_cmp, MatchOrdering}
use Rattle.std.specs.Cmp.{int_cmp_is, int_ranks}
use Rattle.std.proofs.Math.Path.{to_path_p, PathP}
use Rattle.std.proofs.Math.Nat.{ℕ_set}
use Rattle.std.proofs.Math.IntN.{ℤ_set}
use Rattle.std.proofs.Math.Bridge.{le_prop}
use Rattle.std.proofs.lemmas.Int.{ints}
use Rattle.std.proofs.lemmas.Bool.Decides.{nat_tests, Decides-int_eq}
use Rattle.spec_numbers.specs.Fractions.{Fraction, IsReduced, zero_fraction, one_fraction, plus, times, opposite, inverse, compare}
use Rattle.spec_numbers.proofs.Signs.{zero-times}
use Rattle.spec_numbers.proofs.Integers.{times_whole}
use Rattle.spec_numbers.proofs.Order.{compare-plus, compare-times, compare-trans}
use Rattle.spec_numbers.proofs.Field.{zero_of, zero-reduced, plus-reduced, plus-comm, plus-assoc, plus-zero, plus-opposite, times-comm, times-assoc, times-one, times-inverse, times-plus_left, zero-times_of}
use Rattle.spec_tableaux.specs.Fields.{IsOrderedField}
use Rattle.spec_tableaux.specs.Numbers.{Number, numbers, fractions}
use Rattle.spec_tableaux.specs.Spaces.{IsOrdered, as_space}
use Rattle.spec_tableaux.proofs.OrderedSpaces.{field_is_ordered}

fraction_set : IsSet Fraction
fraction_set = hlevel (ℕ_set, ℤ_set)

reduced_prop : (x : Fraction) → IsProp (IsReduced x)
reduced_prop x = hlevel (fraction_set, ℕ_set, le_prop)

-- numbers of one fraction are one
pub number_is : (x y : Number) → x.fraction ≡ y.fraction → x ≡ y
number_is x y e = λ i. record { fraction = e i; reduced = p i }
  where
    p : PathP (λ i. IsReduced (e i)) x.reduced y.reduced
    p = to_path_p (λ i. IsReduced (e i)) (reduced_prop y.fraction _ y.reduced)

-- the test of an integer below 0
negative_true : (z : ℤ) → int_lt z (pos 0) ≡ true → z <ℤ pos 0
negative_true z e = grind (arith, nat_tests)

negative_false : (z : ℤ) → int_lt z (pos 0) ≡ false → pos 0 ≤ℤ z
negative_false z e = grind (arith, nat_tests)

negative_test : (z : ℤ) → z <ℤ pos 0 → int_lt z (pos 0) ≡ true
negative_test z h = grind (arith, nat_tests)

not_negative_test : (z : ℤ) → pos 0 ≤ℤ z → int_lt z (pos 0) ≡ false
not_negative_test z h = grind (arith, nat_tests)

-- a fraction is less than 0 where its numerator is
pub compare_with_zero : (x : Fraction) → compare x zero_fraction ≡ int_cmp x.num (pos 0)
unfolding compare
compare_with_zero x = λ i. int_cmp (times_whole x.num i) (zero-times (pos x.den) i)

less_of_negative : (x : Fraction) → int_lt x.num (pos 0) ≡ true → compare x zero_fraction ≡ Less
less_of_negative x h = compare_with_zero x ∙ sym (int_cmp_is x.num (pos 0) Less (negative_true x.num h))

negative_of_less : (x : Fraction) → compare x zero_fraction ≡ Less → int_lt x.num (pos 0) ≡ true
negative_of_less x e = negative_test x.num
    (subst (λ o. MatchOrdering o (x.num <ℤ pos 0) (x.num ≡ pos 0) (pos 0 <ℤ x.num)) (sym (compare_with_zero x) ∙ e) (int_ranks x.num (pos 0)))

negative_sum : (x y : Fraction) → IsReduced x → IsReduced y → int_lt x.num (pos 0) ≡ true → int_lt y.num (pos 0) ≡ true → int_lt (plus x y).num (pos 0) ≡ true
negative_sum x y r q h k =
    let first : compare (plus x y) y ≡ Less =
    ap (compare (plus x y)) (sym (plus-comm zero_fraction y ∙ plus-zero y q)) ∙ compare-plus x zero_fraction y r.positive zero-reduced.positive q.positive ∙ less_of_negative x h in
    negative_of_less (plus x y) (compare-trans (plus x y) y zero_fraction (plus-reduced x y r.positive q.positive).positive q.positive zero-reduced.positive first (less_of_negative y k))

above : (k : Fraction) → int_lt (opposite k).num (pos 0) ≡ true → pos 0 <ℤ k.num
unfolding opposite
above k h = positive k.num (negative_true (neg_ℤ k.num) h)
  where
    positive : (z : ℤ) → neg_ℤ z <ℤ pos 0 → pos 0 <ℤ z
    positive z h = omega (arith, ints)

negative_product : (k x : Fraction) → IsReduced k → IsReduced x → int_lt (opposite k).num (pos 0) ≡ true → int_lt x.num (pos 0) ≡ true → int_lt (times k x).num (pos 0) ≡ true
negative_product k x r q h e =
    negative_of_less (times k x)
    ((λ i. compare (times-comm k x i) (sym (zero-times_of k r.positive) i))
    ∙ compare-times x zero_fraction k q.positive zero-reduced.positive r.positive (above k h) ∙ less_of_negative x e)

no_sign : (x : Fraction) → IsReduced x → int_lt x.num (pos 0) ≡ false → int_lt (opposite x).num (pos 0) ≡ false → x ≡ zero_fraction
unfolding opposite
no_sign x r h k = zero_of x r (middle x.num (negative_false x.num h) (negative_false (neg_ℤ x.num) k))
  where
    middle : (z : ℤ) → pos 0 ≤ℤ z → pos 0 ≤ℤ neg_ℤ z → z ≡ pos 0
    middle z h k = omega (arith, ints)

one_sign : (x : Fraction) → int_lt x.num (pos 0) ≡ true → int_lt (opposite x).num (pos 0) ≡ false
unfolding opposite
one_sign x h = not_negative_test (neg_ℤ x.num) (other x.num (negative_true x.num h))
  where
    other : (z : ℤ) → z <ℤ pos 0 → pos 0 ≤ℤ neg_ℤ z
    other z h = omega (arith, ints)

not_zero : (x : Fraction) → int_eq x.num (pos 0) ≡ false → x ≢ zero_fraction
not_zero x h e = let k : int_eq x.num (pos 0) ≡ true = ap (λ (q : Fraction). int_eq q.num (pos 0)) e in cc

-- fractions in lowest terms are an ordered field
pub numbers_are_ordered_field : IsOrderedField numbers
unfolding numbers fractions
numbers_are_ordered_field = record {
  sum_associative = λ a b c. number_is _ _ (plus-assoc a.fraction b.fraction c.fraction);
  sum_commutative = λ a b. number_is _ _ (plus-comm a.fraction b.fraction);
  sum_zero = λ a. number_is _ _ (plus-comm zero_fraction a.fraction ∙ plus-zero a.fraction a.reduced);
  sum_opposite = λ a. number_is _ _ (plus-comm (opposite a.fraction) a.fraction ∙ plus-opposite a.fraction a.reduced);
  product_associative = λ a b c. number_is _ _ (times-assoc a.fraction b.fraction c.fraction);
  product_commutative = λ a b. number_is _ _ (times-comm a.fraction b.fraction);
  product_one = λ a. number_is _ _ (times-comm one_fraction a.fraction ∙ times-one a.fraction a.reduced);
  product_inverse = λ a h. number_is _ _ (times-comm (inverse a.fraction) a.fraction ∙ times-inverse a.fraction a.reduced (not_zero a.fraction h));
  distributive = λ a b c. number_is _ _ (times-plus_left b.fraction c.fraction a.fraction a.reduced.positive);
  zero_test = λ a h. number_is _ _ (zero_of a.fraction a.reduced ((Decides-int_eq a.fraction.num (pos 0)).0 h));
  zero_is_zero = refl;
  one_is_not_zero = refl;
  zero_is_not_negative = refl;
  negative_sum = λ a b h k. negative_sum a.fraction b.fraction a.reduced b.reduced h k;
  no_sign = λ a h k. number_is _ _ (no_sign a.fraction a.reduced h k);
  one_sign = λ a h. one_sign a.fraction h;
  negative_product = λ k a h e. negative_product k.fraction a.fraction k.reduced a.reduced h e;
}

-- so they are an ordered space over themselves
pub numbers_are_ordered : IsOrdered (as_space numbers)
numbers_are_ordered = field_is_ordered numbers numbers_are_ordered_field
