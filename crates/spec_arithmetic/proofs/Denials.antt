-- What a literal that is false says of its sides.
use Rattle.std.proofs.Common.{◌≡◌, Bool, true, false, not, ◌&&◌, List, [], Some, refl, sym, ◌∙◌, subst, true≢false}
use Rattle.std.proofs.lemmas.Bool.{and_parts}
use Rattle.spec_numbers.specs.Fractions.{Fraction, zero_fraction, minus, IsReduced}
use Rattle.spec_sorts.specs.Terms.{Number, same_sort, Symbol, Head, Not, Equal, Less, AtMost, Term, app, nil, cons, pair, sort_of}
use Rattle.spec_sorts.specs.WellSorted.{IsWellSorted}
use Rattle.spec_sorts.specs.Values.{number, Interpretation, number_in, is_true, same_value}
use Rattle.spec_sorts.specs.TermValues.{less, at_most, value_at, values_at}
use Rattle.spec_sorts.proofs.WellSorted.{same_sort_is}
use Rattle.spec_arithmetic.specs.Contradictions.{Relation, is_nought, is_below, is_at_most, Negation, are_numbers, where_true, negation_of}
use Rattle.spec_arithmetic.proofs.General.{same_some}
use Rattle.spec_arithmetic.proofs.Differences.{IsAtMostZero, IsBelowZero, less_true, less_false, at_most_true, at_most_false, same_true}
use Rattle.spec_arithmetic.proofs.Reals.{IsReal, first_argument, second_argument}

-- how a number compares with 0
abbrev pub IsRelated : Relation → Fraction → Type 0
IsRelated is_nought x = x ≡ zero_fraction
IsRelated is_below x = IsBelowZero x
IsRelated is_at_most x = IsAtMostZero x

not_not : (b c : Bool) → not (b && true) ≡ not c → b ≡ not (not c)
not_not true true e = refl
not_not true false e = absurd (true≢false (sym e))
not_not false true e = absurd (true≢false e)
not_not false false e = refl

where_taken : (b : Bool) (m n : Negation) → where_true b m ≡ Some n → (b ≡ true) × (m ≡ n)
where_taken true m n e = (refl, same_some m n e)
where_taken false m n e = cc

module _ (symbols : List Symbol) (i : Interpretation) where
  -- What a negation says holds of its sides, which are of sort Real.
  pub record IsDenied (n : Negation) : Type 0 where
    pub left : IsReal symbols n.left
    pub right : IsReal symbols n.right
    pub is_related : (p q : Fraction) → value_at i [] n.left ≡ number p → value_at i [] n.right ≡ number q → IsReduced q → IsRelated n.relation (minus p q)

  -- the sides of an atom
  sides : (h : Head) (s t : Term) → IsWellSorted symbols [] (pair h s t) → are_numbers s t ≡ true → IsReal symbols s × IsReal symbols t
  sides h s t w e =
      let parts = and_parts (same_sort (sort_of s) Number) (same_sort (sort_of t) Number) e in (
        record { term = first_argument symbols h s (cons t nil) w; sort = same_sort_is (sort_of s) Number parts.0 },
        record { term = second_argument symbols h s t nil w; sort = same_sort_is (sort_of t) Number parts.1 },
      )

  pub denied : (positive : Bool) (t : Term) (n : Negation) → IsWellSorted symbols [] t → negation_of positive t ≡ Some n → is_true (value_at i [] t) ≡ not positive → IsDenied n
  unfolding negation_of value_at values_at
  denied positive (app Not (cons t nil)) n w e f = denied (not positive) t n (first_argument symbols Not t nil w) e (not_not (is_true (value_at i [] t)) positive f)
  denied false (app Equal (cons s (cons t nil))) n w e f =
      let k = where_taken (are_numbers s t) _ n e in
      let ends = sides Equal s t w k.0 in
      subst IsDenied k.1 (record { left = ends.0; right = ends.1; is_related = λ p q hp hq r. same_true p q r (sym (λ j. same_value (hp j) (hq j)) ∙ f) })
  denied false (app Less (cons s (cons t nil))) n w e f =
      let k = where_taken (are_numbers s t) _ n e in
      let ends = sides Less s t w k.0 in
      subst IsDenied k.1 (record { left = ends.0; right = ends.1; is_related = λ p q hp hq r. less_true p q (sym (λ j. less (number_in (hp j)) (number_in (hq j))) ∙ f) })
  denied false (app AtMost (cons s (cons t nil))) n w e f =
      let k = where_taken (are_numbers s t) _ n e in
      let ends = sides AtMost s t w k.0 in
      subst IsDenied k.1 (record { left = ends.0; right = ends.1; is_related = λ p q hp hq r. at_most_true p q (sym (λ j. at_most (number_in (hp j)) (number_in (hq j))) ∙ f) })
  denied true (app Less (cons s (cons t nil))) n w e f =
      let k = where_taken (are_numbers s t) _ n e in
      let ends = sides Less s t w k.0 in
      subst IsDenied k.1 (record { left = ends.1; right = ends.0; is_related = λ p q hp hq r. less_false q p (sym (λ j. less (number_in (hq j)) (number_in (hp j))) ∙ f) })
  denied true (app AtMost (cons s (cons t nil))) n w e f =
      let k = where_taken (are_numbers s t) _ n e in
      let ends = sides AtMost s t w k.0 in
      subst IsDenied k.1 (record { left = ends.1; right = ends.0; is_related = λ p q hp hq r. at_most_false q p (sym (λ j. at_most (number_in (hq j)) (number_in (hp j))) ∙ f) })
  denied positive _ n w e f = cc
