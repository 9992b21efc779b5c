-- The weight of a bound makes a weight of the literal that states it.
use Rattle.std.proofs.Common.{◌≡◌, ℕ, Bool, true, false, not, [], ◌∷◌, Option, Some, ℤ, pos, negsuc, neg_ℤ, unsigned_abs, refl, sym, ◌∙◌, ap, subst, arith, true≢false}
use Rattle.std.specs.Prelude.{All, Contains}
use Rattle.std.specs.Int.RustNames.{int_lt}
use Rattle.std.proofs.lemmas.Bool.Decides.{nat_tests}
use Rattle.std.proofs.lemmas.List.Elements.{All-nil, All-cons, All-contains}
use Rattle.spec_numbers.specs.Fractions.{Fraction, IsReduced, times, opposite}
use Rattle.spec_numbers.proofs.Signs.{size_same}
use Rattle.spec_arithmetic.specs.Signs.{size}
use Rattle.spec_tableaux.specs.Fields.{is_positive}
use Rattle.spec_tableaux.specs.Numbers.{Number, numbers, fractions}
use Rattle.spec_tableaux.proofs.Numbers.{numbers_are_ordered_field}
use Rattle.spec_tableaux.proofs.Signs.{opposite_twice, opposite_product}
use Rattle.spec_simplex.specs.Constraints.{Relation, below, at_most, equals, at_least, above}
use Rattle.spec_simplex.specs.Weights.{signed_weight}
use Rattle.ratio128.specs.Meant.{fraction}
use Rattle.term_core.specs.declared.ids.Lit.{Lit}
use Rattle.tableau.specs.Numbers.{number_of}
use Rattle.simplex_bounds.specs.declared.bounds.Side.TheVariants.{Lower, Upper}
use Rattle.simplex_atoms.specs.declared.slack.Slack.{Slack}
use Rattle.simplex_atoms.specs.Slacks.{relation_by}
use Rattle.simplex_atoms.specs.Limits.{Limit, limit_on, limits_where, limits_by, side_by, signed_by, weight_of}

-- sizes

pub size_reduced : (x : Fraction) → IsReduced x → IsReduced (size x)
unfolding size
size_reduced x r = record { positive = r.positive; coprime = r.coprime }

size_turned : (z : ℤ) → int_lt (neg_ℤ z) (pos 0) ≡ false → pos (unsigned_abs z) ≡ neg_ℤ z
size_turned (pos n) e = zero_of n e
  where
    zero_of : (n : ℕ) → int_lt (neg_ℤ (pos n)) (pos 0) ≡ false → pos n ≡ neg_ℤ (pos n)
    zero_of n e = grind (arith, nat_tests)
size_turned (negsuc n) e = refl

size_twice : (x : Fraction) → size (size x) ≡ size x
unfolding size
size_twice x = refl

size_up : (y : Number) → numbers.is_negative y ≡ false → size y.fraction ≡ y.fraction
unfolding numbers fractions size
size_up y h = λ i. record { num = size_same y.fraction.num h i; den = y.fraction.den }

size_down : (y : Number) → numbers.is_negative (numbers.opposite y) ≡ false → size y.fraction ≡ opposite y.fraction
unfolding numbers fractions size opposite
size_down y h = λ i. record { num = size_turned y.fraction.num h i; den = y.fraction.den }

opposite_again : (y : Number) → opposite (opposite y.fraction) ≡ y.fraction
unfolding numbers fractions
opposite_again y = ap (λ (n : Number). n.fraction) (opposite_twice numbers numbers_are_ordered_field y)

-- a quotient has the sign of the number, turned where the divisor is below 0

bool_cases : (b : Bool) → (b ≡ true → ⊥) → b ≡ false
bool_cases true h = absurd (h refl)
bool_cases false h = refl

module _ (k y s : Number) (product : numbers.times y k ≡ s) where
  sign_up : is_positive numbers k ≡ true → numbers.is_negative s ≡ false → numbers.is_negative y ≡ false
  sign_up p h = bool_cases (numbers.is_negative y) (λ e.
      true≢false (sym (numbers_are_ordered_field.negative_product k y p e) ∙ ap numbers.is_negative (numbers_are_ordered_field.product_commutative k y ∙ product) ∙ h))

not_negative_opposite : (k : Number) → numbers.is_zero k ≡ false → is_positive numbers k ≡ false → is_positive numbers (numbers.opposite k) ≡ true
not_negative_opposite k z p = by (numbers.is_negative k) refl
  where
    by : (b : Bool) → numbers.is_negative k ≡ b → is_positive numbers (numbers.opposite k) ≡ true
    by true e = ap numbers.is_negative (opposite_twice numbers numbers_are_ordered_field k) ∙ e
    by false e = absurd (true≢false (sym (ap numbers.is_zero (numbers_are_ordered_field.no_sign k e p) ∙ numbers_are_ordered_field.zero_is_zero) ∙ z))

turned_product : (k y s : Number) → numbers.times y k ≡ s → numbers.times y (numbers.opposite k) ≡ numbers.opposite s
turned_product k y s e =
    let l = numbers_are_ordered_field in
    l.product_commutative y (numbers.opposite k) ∙ opposite_product numbers l k y ∙ ap numbers.opposite (l.product_commutative k y ∙ e)

other_turned : (k y s : Number) → numbers.times y k ≡ s → numbers.times (numbers.opposite y) k ≡ numbers.opposite s
other_turned k y s e = opposite_product numbers numbers_are_ordered_field y k ∙ ap numbers.opposite e

both_turned : (k y s : Number) → numbers.times y k ≡ s → numbers.times (numbers.opposite y) (numbers.opposite k) ≡ s
both_turned k y s e =
    turned_product k (numbers.opposite y) (numbers.opposite s) (other_turned k y s e) ∙ opposite_twice numbers numbers_are_ordered_field s

quotient_times : (s k : Number) → numbers.is_zero k ≡ false → numbers.times (numbers.times s (numbers.inverse k)) k ≡ s
quotient_times s k z =
    let l = numbers_are_ordered_field in
    l.product_associative s (numbers.inverse k) k ∙ ap (numbers.times s) (l.product_inverse k z) ∙ l.product_commutative s numbers.one ∙ l.product_one s

product_fraction : (y k s : Number) → numbers.times y k ≡ s → times y.fraction k.fraction ≡ s.fraction
unfolding numbers fractions
product_fraction y k s e = ap (λ (n : Number). n.fraction) e

-- an upper weight and a lower one
module _ (slack : Slack) (m : Number) (z : numbers.is_zero (number_of slack.factor) ≡ false) (h : numbers.is_negative m ≡ false) where
  abbrev factor : Number
  factor = number_of slack.factor

  abbrev quotient : Number → Number
  quotient s = numbers.times s (numbers.inverse factor)

  -- the size of a quotient that is at least 0
  risen : (s : Number) → numbers.is_negative (quotient s) ≡ false → times (size (size (quotient s).fraction)) factor.fraction ≡ s.fraction
  risen s n = ap (λ x. times x factor.fraction) (size_twice (quotient s).fraction ∙ size_up (quotient s) n) ∙ product_fraction (quotient s) factor s (quotient_times s factor z)

  -- minus the size of one that is at most 0
  fallen : (s : Number) → numbers.is_negative (numbers.opposite (quotient s)) ≡ false → times (opposite (size (size (quotient s).fraction))) factor.fraction ≡ s.fraction
  fallen s n =
      ap (λ x. times x factor.fraction) (ap opposite (size_twice (quotient s).fraction ∙ size_down (quotient s) n) ∙ opposite_again (quotient s))
      ∙ product_fraction (quotient s) factor s (quotient_times s factor z)

  upper_rises : (up : Bool) → is_positive numbers factor ≡ up → numbers.is_negative (quotient (signed_by (side_by up) m)) ≡ false
  upper_rises true p = sign_up factor (quotient m) m (quotient_times m factor z) p h
  upper_rises false p =
      let s = numbers.opposite m in
      sign_up (numbers.opposite factor) (quotient s) (numbers.opposite s) (turned_product factor (quotient s) s (quotient_times s factor z)) (not_negative_opposite factor z p)
      (ap numbers.is_negative (opposite_twice numbers numbers_are_ordered_field m) ∙ h)

  lower_falls : (up : Bool) → is_positive numbers factor ≡ up → numbers.is_negative (numbers.opposite (quotient (signed_by (side_by (not up)) m))) ≡ false
  lower_falls true p =
      let s = numbers.opposite m in
      sign_up factor (numbers.opposite (quotient s)) (numbers.opposite s) (other_turned factor (quotient s) s (quotient_times s factor z)) p
      (ap numbers.is_negative (opposite_twice numbers numbers_are_ordered_field m) ∙ h)
  lower_falls false p =
      sign_up (numbers.opposite factor) (numbers.opposite (quotient m)) m (both_turned factor (quotient m) m (quotient_times m factor z)) (not_negative_opposite factor z p) h

  abbrev Weighs : Relation → Limit → Type 0
  Weighs r b = times (signed_weight r (weight_of r slack (signed_by b.side m))) (fraction slack.factor) ≡ (signed_by b.side m).fraction

  each : (r : Relation) (up : Bool) (l : Lit) → is_positive numbers factor ≡ up → All (Weighs r) (limits_where (Some r) up slack l)
  each below up l p = All-cons (Weighs below) (limit_on slack l (side_by up) true) [] (risen (signed_by (side_by up) m) (upper_rises up p)) (All-nil (Weighs below))
  each at_most up l p = All-cons (Weighs at_most) (limit_on slack l (side_by up) false) [] (risen (signed_by (side_by up) m) (upper_rises up p)) (All-nil (Weighs at_most))
  each at_least up l p =
      All-cons (Weighs at_least) (limit_on slack l (side_by (not up)) false) [] (fallen (signed_by (side_by (not up)) m) (lower_falls up p)) (All-nil (Weighs at_least))
  each above up l p =
      All-cons (Weighs above) (limit_on slack l (side_by (not up)) true) [] (fallen (signed_by (side_by (not up)) m) (lower_falls up p)) (All-nil (Weighs above))
  each equals up l p =
      let lower = numbers.opposite m in
      All-cons (Weighs equals) (limit_on slack l Lower false) (limit_on slack l Upper false ∷ []) (product_fraction (quotient lower) factor lower (quotient_times lower factor z))
      (All-cons (Weighs equals) (limit_on slack l Upper false) [] (product_fraction (quotient m) factor m (quotient_times m factor z)) (All-nil (Weighs equals)))

-- the laws

pub weighs : (slack : Slack) (l : Lit) (r : Relation) → relation_by slack.kind l.positive ≡ Some r → numbers.is_zero (number_of slack.factor) ≡ false → (b : Limit) → Contains (limits_by slack l) b
    → (m : Number) → numbers.is_negative m ≡ false → times (signed_weight r (weight_of r slack (signed_by b.side m))) (fraction slack.factor) ≡ (signed_by b.side m).fraction
weighs slack l r e z b inside m h =
    let In : Option Relation → Type 0 = λ o. Contains (limits_where o (is_positive numbers (number_of slack.factor)) slack l) b in
    let up = is_positive numbers (number_of slack.factor) in
    All-contains (Weighs slack m z h r) (limits_where (Some r) up slack l) b (each slack m z h r up l refl) (subst In e inside)

pub weight_reduced : (slack : Slack) (r : Relation) (s : Number) → IsReduced (weight_of r slack s)
weight_reduced slack below s = size_reduced _ (numbers.times s (numbers.inverse (number_of slack.factor))).reduced
weight_reduced slack at_most s = size_reduced _ (numbers.times s (numbers.inverse (number_of slack.factor))).reduced
weight_reduced slack equals s = (numbers.times s (numbers.inverse (number_of slack.factor))).reduced
weight_reduced slack at_least s = size_reduced _ (numbers.times s (numbers.inverse (number_of slack.factor))).reduced
weight_reduced slack above s = size_reduced _ (numbers.times s (numbers.inverse (number_of slack.factor))).reduced
