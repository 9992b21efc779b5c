-- Two numbers are in order one way or the other, and one number where they are in order both ways.
use Rattle.std.proofs.Common.{◌≡◌, Bool, true, false, not, ◌||◌, ◌&&◌, [], refl, sym, ◌∙◌, ap}
use Rattle.spec_sorts.specs.Terms.{Term, same_fraction}
use Rattle.spec_sorts.specs.Values.{Value, Interpretation, number_in, is_true, same_value}
use Rattle.spec_sorts.specs.TermValues.{at_most, value_at, values_at}
use Rattle.spec_sorts.proofs.SameTerms.{fraction_itself}
use Rattle.spec_arithmetic.specs.ArithmeticRules.{split, order}
use Rattle.spec_arithmetic.proofs.Differences.{at_most_both, at_most_other}
use Rattle.spec_arithmetic.proofs.Reals.{IsNumber, number_under}

-- numbers in order both ways are one value
same_both : (v w : Value) → IsNumber v → IsNumber w → at_most (number_in v) (number_in w) ≡ true → at_most (number_in w) (number_in v) ≡ true → same_value v w ≡ true
same_both v w hv hw e f =
    let is : hv.fraction ≡ hw.fraction = at_most_both hv.fraction hw.fraction hv.reduced hw.reduced
    (sym (λ j. at_most (number_in (hv.same j)) (number_in (hw.same j))) ∙ e) (sym (λ j. at_most (number_in (hw.same j)) (number_in (hv.same j))) ∙ f) in
    (λ j. same_value (hv.same j) (hw.same j)) ∙ ap (same_fraction hv.fraction) (sym is) ∙ fraction_itself hv.fraction

one_of_three : (a b c : Bool) → (b ≡ true → c ≡ true → a ≡ true) → a || (not (b && true) || (not (c && true) || false)) ≡ true
one_of_three true b c h = refl
one_of_three false false c h = refl
one_of_three false true false h = refl
one_of_three false true true h = h refl refl

one_of_two : (a b : Bool) → (a ≡ false → b ≡ true) → a || (b || false) ≡ true
one_of_two true b h = refl
one_of_two false true h = refl
one_of_two false false h = h refl

-- numbers are equal, or one of them is not at most the other
pub split_true : (i : Interpretation) (s t : Term) → IsNumber (value_at i [] s) → IsNumber (value_at i [] t) → is_true (value_at i [] (split s t)) ≡ true
unfolding value_at values_at
split_true i s t hs ht =
    let v = value_at i [] s in
    let w = value_at i [] t in
    one_of_three (same_value v w) (at_most (number_in v) (number_in w)) (at_most (number_in w) (number_in v)) (same_both v w hs ht)

-- one of two numbers is at most the other
pub order_true : (i : Interpretation) (s t : Term) → is_true (value_at i [] (order s t)) ≡ true
unfolding value_at values_at
order_true i s t =
    one_of_two (at_most (number_under i s) (number_under i t)) (at_most (number_under i t) (number_under i s)) (at_most_other (number_under i s) (number_under i t))
