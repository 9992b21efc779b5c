-- Of values in order neighbours meet first, so a number that is clear of neighbours is clear of any two.
use Rattle.std.proofs.Common.{◌≡◌, ℕ, zero, suc, ◌+◌, ◌-◌, ◌<◌, ◌≤◌, ◌⊎◌, inl, inr, Bool, true, false, cond, List, length, map, get_or, Contains, Result, Ok, Err, IfOk, IfErr, Less, Equal, Greater, refl, sym, ◌∙◌, ap, subst, arith, true≢false}
use Rattle.std.specs.List.{AllAdjacentBelow}
use Rattle.std.specs.Cmp.{IsStrictWeakOrder}
use Rattle.std.specs.Ordering.{is_lt, ordering_then, ordering_reverse}
use Rattle.std.specs.declared.cmp.Ordering.{Ordering}
use Rattle.std.specs.List.Sorted.{IsSortedBy, IsPermutation}
use Rattle.std.proofs.lemmas.Bool.{cases_lt}
use Rattle.std.proofs.lemmas.List.{get_or_default}
use Rattle.std.proofs.lemmas.List.Sorted.{sorted_far, all_adjacent_more, Contains-permutation, IsPermutation-map, IsPermutation-sym}
use Rattle.spec_numbers.specs.Fractions.{compare}
use Rattle.spec_numbers.specs.Bounds.{Overflow}
use Rattle.spec_numbers.proofs.Order.{compare-reversed}
use Rattle.spec_text.proofs.Members.{to_image, from_image}
use Rattle.spec_tableaux.specs.Fields.{is_positive}
use Rattle.spec_tableaux.specs.Spaces.{Pair}
use Rattle.spec_tableaux.specs.Numbers.{Number, numbers}
use Rattle.ratio128.specs.declared.ratio.Ratio.{Ratio}
use Rattle.ratio128.specs.declared.wide.Wide.{Wide}
use Rattle.ratio128.specs.Meant.{overflow}
use Rattle.delta_num.specs.declared.delta.Delta.{Delta}
use Rattle.delta_num.specs.Meant.{delta}
use Rattle.tableau.specs.Numbers.{number_of}
use Rattle.tableau.proofs.Comparing.{less_at, not_less_at}
use Rattle.simplex_bounds.specs.Deltas.{pair_of}
use Rattle.simplex_check.proofs.Points.{deltas_are_ordered as o}
use Rattle.spec_tableaux.specs.Deltas.{delta_compare}
use Rattle.spec_tableaux.specs.Points.{deltas}
use Rattle.spec_tableaux.specs.Halves.{at_number, is_less, IsSteeper, two, halfway, OverflowsOrder, OverflowsApart}
use Rattle.spec_causes.specs.Causes.{IsHalfAmong}
use Rattle.simplex_numbers.specs.Values.{IsSmaller, IsAboveNone, IsClear, KeepsApart, by_value}
use Rattle.simplex_numbers.proofs.Orders.{irreflexive, not_above, steep_less, level_stays, steep_stays, half_stays, at_double, double_positive}
use Rattle.simplex_numbers.proofs.Keeping.{not_greater}

-- the order of the code is that of the pairs
lt_is_less : (x y : Number) → is_lt (compare x.fraction y.fraction) ≡ is_less x y
lt_is_less x y = by (compare x.fraction y.fraction) refl
  where
    by : (r : Ordering) → compare x.fraction y.fraction ≡ r → is_lt r ≡ is_less x y
    by Less e = less_at x y e
    by Equal e = not_less_at x y Equal e (λ h. cc)
    by Greater e = not_less_at x y Greater e (λ h. cc)

by_parts : (a b : Pair Number) → is_lt (ordering_then (compare a.base.fraction b.base.fraction) (compare a.tilt.fraction b.tilt.fraction)) ≡ deltas.less a b
by_parts a b = by (compare a.base.fraction b.base.fraction) refl
  where
    back : compare b.base.fraction a.base.fraction ≡ ordering_reverse (compare a.base.fraction b.base.fraction)
    back = compare-reversed b.base.fraction a.base.fraction

    by : (r : Ordering) → compare a.base.fraction b.base.fraction ≡ r → is_lt (ordering_then r (compare a.tilt.fraction b.tilt.fraction)) ≡ deltas.less a b
    by Less e = λ i. cond (less_at a.base b.base e i) true (cond (is_less b.base a.base) false (is_less a.tilt b.tilt))
    by Equal e = λ i. cond (not_less_at a.base b.base Equal e (λ h. cc) i) true
        (cond (not_less_at b.base a.base Equal (back ∙ ap ordering_reverse e) (λ h. cc) i) false (lt_is_less a.tilt b.tilt i))
    by Greater e = λ i. cond (not_less_at a.base b.base Greater e (λ h. cc) i) true
        (cond (less_at b.base a.base (back ∙ ap ordering_reverse e) i) false (is_less a.tilt b.tilt))

pub compared : (x y : Delta) → is_lt (delta_compare (delta x) (delta y)) ≡ by_value x y
unfolding delta_compare
compared x y = by_parts (pair_of x) (pair_of y)

one_way : (x y : Pair Number) → deltas.less x y ≡ true → deltas.less y x ≡ false
one_way x y h = by (deltas.less y x) refl
  where
    by : (q : Bool) → deltas.less y x ≡ q → q ≡ false
    by true k = absurd (true≢false (sym (o.less_transitive x y x h k) ∙ o.less_irreflexive x))
    by false k = refl

chain : (x y z : Pair Number) → deltas.less x y ≡ false → deltas.less y z ≡ false → deltas.less x z ≡ false
chain x y z h k = by (deltas.less x z) refl (deltas.less y x) refl
  where
    by : (p : Bool) → deltas.less x z ≡ p → (q : Bool) → deltas.less y x ≡ q → p ≡ false
    by false e q f = refl
    by true e true f = absurd (true≢false (sym (o.less_transitive y x z f e) ∙ k))
    by true e false f = absurd (true≢false (sym e ∙ ap (λ w. deltas.less w z) (o.less_total x y h f) ∙ k))

pub ranks : IsStrictWeakOrder by_value
ranks = record { one_way = λ x y. one_way (pair_of x) (pair_of y); chain = λ x y z. chain (pair_of x) (pair_of y) (pair_of z) }

-- a number stays clear of two values where it becomes smaller
clear_smaller : (e d : Number) (x y : Pair Number) → IsSmaller d e → IsClear e x y → IsClear d x y
clear_smaller e d x y small clear steep = not_above (halfway x y) e d (clear steep) small.1

-- a number that is clear of neighbours
module _ (e : Number) (p : is_positive numbers e ≡ true) where
  abbrev double : Number
  double = numbers.times two e

  -- at twice the number x is not above y
  abbrev InOrder : Pair Number → Pair Number → Type 0
  InOrder x y = is_less (at_number double y) (at_number double x) ≡ false

  in_order : (x y : Pair Number) → deltas.less y x ≡ false → IsClear e x y → InOrder x y
  in_order x y h clear = by (is_less y.tilt x.tilt) refl
    where
      by : (q : Bool) → is_less y.tilt x.tilt ≡ q → InOrder x y
      by true steep = at_double x y steep e ∙ clear steep
      by false level = not_greater double x y h (level_stays x y double (double_positive e p) level)

  module _ (xs : List Delta) (up : IsSortedBy by_value xs) (near : AllAdjacentBelow (λ x y. IsClear e (pair_of x) (pair_of y)) xs (length xs)) where
    along : (n i : ℕ) (d : Delta) → i + n < length xs → InOrder (pair_of (get_or xs i d)) (pair_of (get_or xs (i + n) d))
    along zero i d l = ap (λ k. is_less (at_number double (pair_of (get_or xs k d))) (at_number double (pair_of (get_or xs i d)))) (none_more i)
        ∙ irreflexive (at_number double (pair_of (get_or xs i d)))
      where
        none_more : (i : ℕ) → i + 0 ≡ i
        none_more i = omega arith
    along (suc n) i d l = step (i + n) (i + suc n) (omega arith) l (along n i d (omega (arith, l)))
      where
        step : (j m : ℕ) → m ≡ j + 1 → m < length xs → InOrder (pair_of (get_or xs i d)) (pair_of (get_or xs j d)) → InOrder (pair_of (get_or xs i d)) (pair_of (get_or xs m d))
        step j m e l before =
            let next : j + 1 < length xs = omega (arith, l, e) in
            let two_in_order = in_order (pair_of (get_or xs j d)) (pair_of (get_or xs (j + 1) d)) (up j d (omega arith) next) (near j d next) in
            ap (λ k. is_less (at_number double (pair_of (get_or xs k d))) (at_number double (pair_of (get_or xs i d)))) e
            ∙ not_above (at_number double (pair_of (get_or xs (j + 1) d))) (at_number double (pair_of (get_or xs j d))) (at_number double (pair_of (get_or xs i d))) two_in_order before

    up_to : (i j : ℕ) (d : Delta) → i ≤ j → j < length xs → InOrder (pair_of (get_or xs i d)) (pair_of (get_or xs j d))
    up_to i j d low l =
        ap (λ k. is_less (at_number double (pair_of (get_or xs k d))) (at_number double (pair_of (get_or xs i d)))) (sym (sum i j low)) ∙ along (j - i) i d (omega (arith, low, l))
      where
        sum : (i j : ℕ) → i ≤ j → i + (j - i) ≡ j
        sum i j low = omega (arith, low)

    -- of any two values the lesser is not above the other at twice the number
    slack_list : (a b : Delta) → Contains xs a → Contains xs b → by_value a b ≡ true → InOrder (pair_of a) (pair_of b)
    slack_list a b (i, i_in, i_is) (j, j_in, j_is) less = go (cases_lt i j)
      where
        there : get_or xs j a ≡ b
        there = get_or_default xs j a b j_in ∙ j_is

        go : (i < j) ⊎ (j ≤ i) → InOrder (pair_of a) (pair_of b)
        go (inl l) =
            (λ t. is_less (at_number double (pair_of (sym there t))) (at_number double (pair_of (sym i_is t)))) ∙ up_to i j a (omega (arith, l)) j_in
        go (inr l) =
            absurd (true≢false (sym less ∙ (λ t. by_value (sym i_is t) (sym there t)) ∙ sorted_far by_value ranks xs up j i a l i_in))

    -- so it is above no half of a number at which two of them meet
    pub none_among : IsAboveNone (IsHalfAmong (map pair_of xs)) e
    none_among h half =
        let x = half.lesser in
        let y = half.greater in
        let a = from_image pair_of xs x half.lesser_in in
        let b = from_image pair_of xs y half.greater_in in
        let order = slack_list a.0 b.0 a.1 b.1 ((λ t. deltas.less (a.2 t) (b.2 t)) ∙ half.less) in
        ap (λ (n : Number). is_less n e) half.is ∙ sym (at_double x y half.steep e)
        ∙ (λ t. is_less (at_number double (sym b.2 t)) (at_number double (sym a.2 t))) ∙ order

-- two values of a list that meet
half_of : (xs : List (Pair Number)) (x y : Pair Number) (e : Number) → Contains xs x → Contains xs y → deltas.less y x ≡ false
    → IsSteeper x y → e ≡ halfway x y → IsHalfAmong xs e
half_of xs x y e x_in y_in order steep is = record {
  lesser = x;
  lesser_in = x_in;
  greater = y;
  greater_in = y_in;
  less = steep_less x y steep order;
  steep = steep;
  is = is;
}

-- an element, whatever is asked for where there is none
read : (xs : List Delta) (k : ℕ) (x : Delta) → k < length xs → x ≡ get_or xs k x → (z : Delta) → get_or xs k z ≡ x
read xs k x lt is z = get_or_default xs k z x lt ∙ sym is

module _ (xs : List Delta) (at : ℕ) (x y : Delta) (some : 0 < at) (lt : at < length xs) (x_is : x ≡ get_or xs (at - 1) x) (y_is : y ≡ get_or xs at y) where
  before : at - 1 < length xs
  before = omega (arith, some, lt)

  clear_at : (d : Number) → IsClear d (pair_of x) (pair_of y) → (z : Delta) → IsClear d (pair_of (get_or xs (at - 1) z)) (pair_of (get_or xs at z))
  clear_at d clear z =
      subst (λ w. IsClear d (pair_of w) (pair_of (get_or xs at z))) (sym (read xs (at - 1) x before x_is z))
      (subst (λ w. IsClear d (pair_of x) (pair_of w)) (sym (read xs at y lt y_is z)) clear)

  -- neighbours that were clear of each other stay so, and these two are
  pub clear_more : (e d : Number) → IsSmaller d e → AllAdjacentBelow (λ x y. IsClear e (pair_of x) (pair_of y)) xs at → IsClear d (pair_of x) (pair_of y)
      → AllAdjacentBelow (λ x y. IsClear d (pair_of x) (pair_of y)) xs (at + 1)
  clear_more e d small clear new =
      all_adjacent_more xs (λ x y. IsClear d (pair_of x) (pair_of y)) at some
      (λ k z lt. clear_smaller e d (pair_of (get_or xs k z)) (pair_of (get_or xs (k + 1) z)) small (clear k z lt)) (clear_at d new)

  module _ (up : IsSortedBy by_value xs) where
    order : by_value y x ≡ false
    order =
        (λ t. by_value (sym (read xs at y lt y_is x) t) (sym (read xs (at - 1) x before x_is x) t))
        ∙ ap (λ k. by_value (get_or xs k x) (get_or xs (at - 1) x)) (next some) ∙ up (at - 1) x (omega arith) (omega (arith, some, lt))
      where
        next : 0 < at → at ≡ at - 1 + 1
        next some = omega (arith, some)

    x_in : Contains (map pair_of xs) (pair_of x)
    x_in = to_image pair_of xs x (at - 1, before, sym x_is)

    y_in : Contains (map pair_of xs) (pair_of y)
    y_in = to_image pair_of xs y (at, lt, sym y_is)

    -- a number that stays, or is half of the one at which they meet
    pub half_more : (e s d : Ratio) → (s ≡ e) ⊎ IsHalfAmong (map pair_of xs) (number_of s)
        → (d ≡ s) ⊎ (IsSteeper (pair_of x) (pair_of y) × (number_of d ≡ halfway (pair_of x) (pair_of y))) → (d ≡ e) ⊎ IsHalfAmong (map pair_of xs) (number_of d)
    half_more e s d _ (inr h) = inr (half_of (map pair_of xs) (pair_of x) (pair_of y) (number_of d) x_in y_in order h.0 h.1)
    half_more e s d (inl h) (inl same) = inl (same ∙ h)
    half_more e s d (inr half) (inl same) = inr (subst (λ (r : Ratio). IsHalfAmong (map pair_of xs) (number_of r)) (sym same) half)

    pub overflows_more : (w : Overflow) → OverflowsOrder (pair_of x) (pair_of y) w → OverflowsApart (map pair_of xs) w
    overflows_more w may_overflow = record {
      lesser = pair_of x;
      lesser_in = x_in;
      greater = pair_of y;
      greater_in = y_in;
      less = steep_less (pair_of x) (pair_of y) may_overflow.0 order;
      may_overflow = may_overflow;
    }

-- the same of a list in another order
module _ (xs ys : List Delta) (s : IsPermutation xs ys) where
  to : (x : Pair Number) → Contains (map pair_of xs) x → Contains (map pair_of ys) x
  to x = Contains-permutation (map pair_of xs) (map pair_of ys) x (IsPermutation-map pair_of xs ys s)

  from : (x : Pair Number) → Contains (map pair_of ys) x → Contains (map pair_of xs) x
  from x = Contains-permutation (map pair_of ys) (map pair_of xs) x (IsPermutation-map pair_of ys xs (IsPermutation-sym xs ys s))

  half_to : (h : Number) → IsHalfAmong (map pair_of xs) h → IsHalfAmong (map pair_of ys) h
  half_to h half = record {
    lesser = half.lesser;
    lesser_in = to half.lesser half.lesser_in;
    greater = half.greater;
    greater_in = to half.greater half.greater_in;
    less = half.less;
    steep = half.steep;
    is = half.is;
  }

  half_from : (h : Number) → IsHalfAmong (map pair_of ys) h → IsHalfAmong (map pair_of xs) h
  half_from h half = record {
    lesser = half.lesser;
    lesser_in = from half.lesser half.lesser_in;
    greater = half.greater;
    greater_in = from half.greater half.greater_in;
    less = half.less;
    steep = half.steep;
    is = half.is;
  }

  pub is_from : (r : Result Ratio Wide) (e : Ratio) → IfOk r (λ d. (d ≡ e) ⊎ IsHalfAmong (map pair_of ys) (number_of d))
      → IfOk r (λ d. (d ≡ e) ⊎ IsHalfAmong (map pair_of xs) (number_of d))
  is_from (Ok d) e (inl h) = inl h
  is_from (Ok d) e (inr h) = inr (half_from (number_of d) h)
  is_from (Err w) e h = tt

  pub least_from : (r : Result Ratio Wide) → IfOk r (λ d. IsAboveNone (IsHalfAmong (map pair_of ys)) (number_of d))
      → IfOk r (λ d. IsAboveNone (IsHalfAmong (map pair_of xs)) (number_of d))
  least_from (Ok d) none = λ h half. none h (half_to h half)
  least_from (Err w) none = tt

  pub overflows_from : (r : Result Ratio Wide) → IfErr r (λ w. OverflowsApart (map pair_of ys) (overflow w)) → IfErr r (λ w. OverflowsApart (map pair_of xs) (overflow w))
  overflows_from (Ok d) h = tt
  overflows_from (Err w) h = record {
    lesser = h.lesser;
    lesser_in = from h.lesser h.lesser_in;
    greater = h.greater;
    greater_in = from h.greater h.greater_in;
    less = h.less;
    may_overflow = h.may_overflow;
  }

-- a number that is above no such half keeps the values apart
module _ (e : Number) (p : is_positive numbers e ≡ true) (xs : List (Pair Number)) (none : IsAboveNone (IsHalfAmong xs) e) where
  stays : (x y : Pair Number) → Contains xs x → Contains xs y → deltas.less x y ≡ true → is_less (at_number e x) (at_number e y) ≡ true
  stays x y x_in y_in less = by (is_less y.tilt x.tilt) refl
    where
      by : (q : Bool) → is_less y.tilt x.tilt ≡ q → is_less (at_number e x) (at_number e y) ≡ true
      by true steep =
          let half = half_of xs x y (halfway x y) x_in y_in (one_way x y less) steep refl in
          steep_stays x y steep (halfway x y) e (none (halfway x y) half) (half_stays x y steep less)
      by false level = level_stays x y e p level less

  pub keeps_apart : KeepsApart e xs
  keeps_apart x y x_in y_in other same = by (deltas.less x y) refl (deltas.less y x) refl
    where
      by : (q : Bool) → deltas.less x y ≡ q → (r : Bool) → deltas.less y x ≡ r → ⊥
      by true less r h = true≢false (sym (stays x y x_in y_in less) ∙ ap (λ (n : Number). is_less n (at_number e y)) same ∙ irreflexive (at_number e y))
      by false h true less = true≢false (sym (stays y x y_in x_in less) ∙ ap (is_less (at_number e y)) same ∙ irreflexive (at_number e y))
      by false h false k = other (o.less_total x y h k)

pub apart_after : (r : Result Ratio Wide) (e : Number) (xs : List (Pair Number)) → IfOk r (λ d. IsSmaller (number_of d) e)
    → IfOk r (λ d. IsAboveNone (IsHalfAmong xs) (number_of d)) → IfOk r (λ d. KeepsApart (number_of d) xs)
apart_after (Ok d) e xs small none = keeps_apart (number_of d) small.0 xs none
apart_after (Err w) e xs small none = tt
