-- Numbers in the place of the infinitesimal that are small enough keep the order of pairs.
use Rattle.std.proofs.Common.{◌≡◌, Bool, true, false, cond, refl, sym, ◌∙◌, ap, true≢false}
use Rattle.spec_numbers.specs.Fractions.{gcd, plus, times, opposite, inverse}
use Rattle.spec_tableaux.specs.Fields.{is_positive}
use Rattle.spec_tableaux.specs.Spaces.{Pair, pairs}
use Rattle.spec_tableaux.specs.Numbers.{Number, numbers, fractions}
use Rattle.spec_tableaux.proofs.Numbers.{numbers_are_ordered_field as l, numbers_are_ordered as o}
use Rattle.spec_tableaux.proofs.OrderedSpaces.{pairs_are_ordered}
use Rattle.spec_tableaux.proofs.Groups.{inner_two}
use Rattle.spec_tableaux.proofs.Signs.{sum_zero_right, zero_product, opposite_sum, opposite_product, opposite_zero, difference_opposite, difference_scale, difference_self, product_sign}
use Rattle.simplex_numbers.specs.Values.{StaysLess, IsSmaller}
use Rattle.spec_tableaux.specs.Halves.{at_number, is_less, gap, steepness, IsSteeper, two, meeting, halfway}

-- signs

-- a number above 0 is not 0
positive_not_zero : (a : Number) → is_positive numbers a ≡ true → numbers.is_zero a ≡ false
positive_not_zero a h = by (numbers.is_zero a) refl
  where
    by : (q : Bool) → numbers.is_zero a ≡ q → q ≡ false
    by true e = absurd (true≢false (sym h ∙ ap numbers.is_negative (ap numbers.opposite (l.zero_test a e) ∙ opposite_zero numbers l) ∙ l.zero_is_not_negative))
    by false e = refl

-- a product with a number above 0 is above 0 where the other factor is
positive_factor : (k a : Number) → is_positive numbers k ≡ true → is_positive numbers (numbers.times k a) ≡ is_positive numbers a
positive_factor k a p =
    ap numbers.is_negative (ap numbers.opposite (l.product_commutative k a) ∙ sym (opposite_product numbers l a k) ∙ l.product_commutative (numbers.opposite a) k)
    ∙ product_sign numbers l k (numbers.opposite a) p

-- 2 is above 0, and so is twice a number above 0
pub two_not_zero : numbers.is_zero two ≡ false
unfolding numbers fractions plus gcd
two_not_zero = refl

two_positive : is_positive numbers two ≡ true
unfolding numbers fractions plus opposite gcd
two_positive = refl

pub double_positive : (e : Number) → is_positive numbers e ≡ true → is_positive numbers (numbers.times two e) ≡ true
double_positive e p = positive_factor two e two_positive ∙ p

-- what is not above 0, times a number above 0, is not above what is
below_positive : (k e d : Number) → is_positive numbers e ≡ true → numbers.is_negative (numbers.opposite k) ≡ false → is_positive numbers d ≡ true
    → is_less (numbers.times k e) d ≡ true
below_positive k e d p h q = by (numbers.is_negative k) refl
  where
    by : (s : Bool) → numbers.is_negative k ≡ s → is_less (numbers.times k e) d ≡ true
    by true s = l.negative_sum _ _ (ap numbers.is_negative (l.product_commutative k e) ∙ product_sign numbers l e k p ∙ s) q
    by false s =
        ap (λ (n : Number). is_less n d) (ap (λ (n : Number). numbers.times n e) (l.no_sign k s h) ∙ zero_product numbers l e)
        ∙ ap numbers.is_negative (l.sum_zero (numbers.opposite d)) ∙ q

-- what is not greater than something less is less
not_above_less : (a b c : Number) → is_less b a ≡ false → is_less b c ≡ true → is_less a c ≡ true
not_above_less a b c h k = by (is_less a c) refl (is_less c a) refl
  where
    by : (p : Bool) → is_less a c ≡ p → (q : Bool) → is_less c a ≡ q → is_less a c ≡ true
    by true e q f = e
    by false e true f = absurd (true≢false (sym (o.less_transitive b c a k f) ∙ h))
    by false e false f = absurd (true≢false (sym k ∙ ap (is_less b) (sym (o.less_total a c e f)) ∙ h))

-- the difference of two pairs at a number
at_difference : (e : Number) (x y : Pair Number) → numbers.plus (at_number e x) (numbers.opposite (at_number e y))
    ≡ numbers.plus (numbers.times (steepness x y) e) (numbers.opposite (gap x y))
at_difference e x y =
    ap (numbers.plus (at_number e x)) (opposite_sum numbers l y.base (numbers.times y.tilt e))
    ∙ inner_two numbers.plus l.sum_associative l.sum_commutative x.base (numbers.times x.tilt e) (numbers.opposite y.base) (numbers.opposite (numbers.times y.tilt e))
    ∙ l.sum_commutative _ _
    ∙ (λ i. numbers.plus (tilts i) (sym (difference_opposite numbers l y.base x.base) i))
  where
    tilts : numbers.plus (numbers.times x.tilt e) (numbers.opposite (numbers.times y.tilt e)) ≡ numbers.times (steepness x y) e
    tilts =
        (λ i. numbers.plus (l.product_commutative x.tilt e i) (numbers.opposite (l.product_commutative y.tilt e i)))
        ∙ difference_scale numbers l e x.tilt y.tilt ∙ l.product_commutative e (steepness x y)

-- a pair is less at a number where its steepness times this is less than the gap
pub at_less : (e : Number) (x y : Pair Number) → is_less (at_number e x) (at_number e y) ≡ is_less (numbers.times (steepness x y) e) (gap x y)
at_less e x y = ap numbers.is_negative (at_difference e x y)

module _ (x y : Pair Number) where
  -- what is less by base, or at one base by tilt
  by_parts : (pairs numbers).less x y ≡ true → (P : Type 0) → (is_less x.base y.base ≡ true → P) → (x.base ≡ y.base → is_less x.tilt y.tilt ≡ true → P) → P
  by_parts h P f g = by (is_less x.base y.base) refl (is_less y.base x.base) refl h
    where
      by : (p : Bool) → is_less x.base y.base ≡ p → (q : Bool) → is_less y.base x.base ≡ q → cond p true (cond q false (is_less x.tilt y.tilt)) ≡ true → P
      by true e q m n = f e
      by false e true m n = absurd (true≢false (sym n))
      by false e false m n = g (o.less_total x.base y.base e m) n

  -- a pair without a greater tilt is less at each number above 0
  pub level_stays : (e : Number) → is_positive numbers e ≡ true → is_less y.tilt x.tilt ≡ false → StaysLess e x y
  level_stays e p level h = at_less e x y ∙ by_parts h (is_less (numbers.times (steepness x y) e) (gap x y) ≡ true) by_base by_tilt
    where
      no_tilt : numbers.is_negative (numbers.opposite (steepness x y)) ≡ false
      no_tilt = ap numbers.is_negative (difference_opposite numbers l x.tilt y.tilt) ∙ level

      by_base : is_less x.base y.base ≡ true → is_less (numbers.times (steepness x y) e) (gap x y) ≡ true
      by_base b = below_positive (steepness x y) e (gap x y) p no_tilt (ap numbers.is_negative (difference_opposite numbers l y.base x.base) ∙ b)

      by_tilt : x.base ≡ y.base → is_less x.tilt y.tilt ≡ true → is_less (numbers.times (steepness x y) e) (gap x y) ≡ true
      by_tilt b t =
          ap (is_less (numbers.times (steepness x y) e)) (ap (λ (n : Number). numbers.plus y.base (numbers.opposite n)) b ∙ difference_self numbers l y.base)
          ∙ ap numbers.is_negative (ap (numbers.plus (numbers.times (steepness x y) e)) (opposite_zero numbers l) ∙ sum_zero_right numbers l _ ∙ l.product_commutative (steepness x y) e)
          ∙ product_sign numbers l e (steepness x y) p ∙ t

  module _ (steep : IsSteeper x y) where
    rises : is_positive numbers (steepness x y) ≡ true
    rises = ap numbers.is_negative (difference_opposite numbers l x.tilt y.tilt) ∙ steep

    pub rises_not_zero : numbers.is_zero (steepness x y) ≡ false
    rises_not_zero = positive_not_zero (steepness x y) rises

    -- a pair of a greater tilt is less at each number that is not greater than one at which it is
    pub steep_stays : (e d : Number) → is_less e d ≡ false → is_less (at_number e x) (at_number e y) ≡ true → is_less (at_number d x) (at_number d y) ≡ true
    steep_stays e d small h =
        at_less d x y
        ∙ not_above_less (numbers.times (steepness x y) d) (numbers.times (steepness x y) e) (gap x y)
        (o.less_scale (steepness x y) e d rises_not_zero ∙ ap (λ q. cond q (is_less e d) (is_less d e)) rises ∙ small)
        (sym (at_less e x y) ∙ h)

    -- it is less by its base
    gap_above : (pairs numbers).less x y ≡ true → is_positive numbers (gap x y) ≡ true
    gap_above h = ap numbers.is_negative (difference_opposite numbers l y.base x.base) ∙ by_parts h (is_less x.base y.base ≡ true) (λ b. b) (λ b t. absurd (true≢false
        (sym (o.less_transitive x.tilt y.tilt x.tilt t steep) ∙ o.less_irreflexive x.tilt)))

    -- the steepness times half of the number at which they meet is half the gap
    half_gap : numbers.times (steepness x y) (halfway x y) ≡ numbers.times (gap x y) (numbers.inverse two)
    half_gap =
        sym (l.product_associative (steepness x y) (meeting x y) (numbers.inverse two))
        ∙ ap (λ (n : Number). numbers.times n (numbers.inverse two))
        (l.product_commutative (steepness x y) (meeting x y) ∙ l.product_associative (gap x y) (numbers.inverse (steepness x y)) (steepness x y)
        ∙ ap (numbers.times (gap x y)) (l.product_inverse (steepness x y) rises_not_zero) ∙ l.product_commutative (gap x y) numbers.one ∙ l.product_one (gap x y))

    -- the steepness times twice the half is the gap
    whole_gap : numbers.times (steepness x y) (numbers.times two (halfway x y)) ≡ gap x y
    whole_gap =
        sym (l.product_associative (steepness x y) two (halfway x y)) ∙ ap (λ (n : Number). numbers.times n (halfway x y)) (l.product_commutative (steepness x y) two)
        ∙ l.product_associative two (steepness x y) (halfway x y) ∙ ap (numbers.times two) (half_gap ∙ l.product_commutative (gap x y) (numbers.inverse two))
        ∙ sym (l.product_associative two (numbers.inverse two) (gap x y))
        ∙ ap (λ (n : Number). numbers.times n (gap x y)) (l.product_commutative two (numbers.inverse two) ∙ l.product_inverse two two_not_zero) ∙ l.product_one (gap x y)

    -- twice a number is beyond the one at which they meet where the number is above the half of that
    pub at_double : (e : Number) → is_less (at_number (numbers.times two e) y) (at_number (numbers.times two e) x) ≡ is_less (halfway x y) e
    at_double e =
        let d = numbers.times two e in
        ap numbers.is_negative (sym (difference_opposite numbers l (at_number d x) (at_number d y)) ∙ ap numbers.opposite (at_difference d x y)
        ∙ difference_opposite numbers l (numbers.times (steepness x y) d) (gap x y))
        ∙ ap (λ (n : Number). is_less n (numbers.times (steepness x y) d)) (sym whole_gap)
        ∙ o.less_scale (steepness x y) (numbers.times two (halfway x y)) d rises_not_zero
        ∙ ap (λ q. cond q (is_less (numbers.times two (halfway x y)) d) (is_less d (numbers.times two (halfway x y)))) rises
        ∙ o.less_scale two (halfway x y) e two_not_zero ∙ ap (λ q. cond q (is_less (halfway x y) e) (is_less e (halfway x y))) two_positive

    half_positive : is_positive numbers (numbers.inverse two) ≡ true
    unfolding numbers fractions plus times opposite inverse gcd
    half_positive = refl

    half_small : is_less (numbers.inverse two) numbers.one ≡ true
    unfolding numbers fractions plus times opposite inverse gcd
    half_small = refl

    -- half of that number is above 0, and the pair is less there
    pub half_above : (pairs numbers).less x y ≡ true → is_positive numbers (halfway x y) ≡ true
    half_above h =
        sym (positive_factor (steepness x y) (halfway x y) rises)
        ∙ ap (is_positive numbers) half_gap ∙ positive_factor (gap x y) (numbers.inverse two) (gap_above h) ∙ half_positive

    pub half_stays : (pairs numbers).less x y ≡ true → is_less (at_number (halfway x y) x) (at_number (halfway x y) y) ≡ true
    half_stays h =
        at_less (halfway x y) x y ∙ ap (λ (n : Number). is_less n (gap x y)) half_gap
        ∙ ap (is_less (numbers.times (gap x y) (numbers.inverse two))) (sym (l.product_one (gap x y)) ∙ l.product_commutative numbers.one (gap x y))
        ∙ o.less_scale (gap x y) (numbers.inverse two) numbers.one (positive_not_zero (gap x y) (gap_above h)) ∙ ap (λ q. cond q (is_less (numbers.inverse two) numbers.one) (is_less numbers.one (numbers.inverse two))) (gap_above h)
        ∙ half_small

-- what is less at a number is so at each that is above 0 and not greater
pub less_stays : (e d : Number) (x y : Pair Number) → IsSmaller d e → StaysLess e x y → StaysLess d x y
less_stays e d x y small h = by (is_less y.tilt x.tilt) refl
  where
    by : (q : Bool) → is_less y.tilt x.tilt ≡ q → StaysLess d x y
    by true steep = λ less. steep_stays x y steep e d small.1 (h less)
    by false level = level_stays x y d small.0 level

pub asymmetric : (a b : Number) → is_less a b ≡ true → is_less b a ≡ false
asymmetric a b h = by (is_less b a) refl
  where
    by : (q : Bool) → is_less b a ≡ q → q ≡ false
    by true k = absurd (true≢false (sym (o.less_transitive a b a h k) ∙ o.less_irreflexive a))
    by false k = refl

pub irreflexive : (a : Number) → is_less a a ≡ false
irreflexive = o.less_irreflexive

-- a pair of a greater tilt that is not greater is less
pub steep_less : (x y : Pair Number) → IsSteeper x y → (pairs numbers).less y x ≡ false → (pairs numbers).less x y ≡ true
steep_less x y steep h = by ((pairs numbers).less x y) refl
  where
    by : (q : Bool) → (pairs numbers).less x y ≡ q → q ≡ true
    by true e = refl
    by false e =
        let same : x ≡ y = (pairs_are_ordered numbers l).less_total x y e h in
        absurd (true≢false (sym steep ∙ ap (λ (z : Pair Number). is_less y.tilt z.tilt) same ∙ irreflexive y.tilt))

-- what is not above a number is not above one that this is not above
pub not_above : (e d c : Number) → is_less e d ≡ false → is_less d c ≡ false → is_less e c ≡ false
not_above e d c first second = by (is_less e c) refl
  where
    by : (q : Bool) → is_less e c ≡ q → q ≡ false
    by true k = absurd (true≢false (sym (not_above_less d e c first k) ∙ second))
    by false k = refl

pub smaller_smaller : (e d c : Number) → IsSmaller d e → IsSmaller c d → IsSmaller c e
smaller_smaller e d c first second = (second.0, not_above e d c first.1 second.1)
