-- That the rule `la_generic` takes the clauses of an equality of numbers and its orders, unless an operation leaves the bound on numbers.
use Rattle.std.proofs.Common.{◌≡◌, ◌<◌, ◌&&◌, true, false, List, Some, [], ◌∷◌, Result, Ok, Err, refl, sym, ap, ◌∙◌, subst}
use Rattle.spec_text.specs.Answers.{◌>>=◌}
use Rattle.spec_numbers.specs.Fractions.{Fraction, zero_fraction, one_fraction, plus, times, opposite, IsReduced}
use Rattle.spec_numbers.proofs.Field.{plus-comm, plus-zero, plus-opposite, plus-reduced, opposite-times, opposite-reduced, zero-reduced, one-reduced}
use Rattle.spec_sorts.specs.Terms.{Symbol, Number, Equal, Less, AtMost, Term, pair, negated, same_sort, sort_of}
use Rattle.spec_sorts.specs.WellSorted.{IsWellSorted}
use Rattle.spec_arithmetic.specs.Signs.{is_zero, is_above_zero, size}
use Rattle.spec_arithmetic.specs.Forms.{Answer, Form, Fault, subtracting, combined, at_term, form, difference, form_value}
use Rattle.spec_arithmetic.specs.Contradictions as sums
use Rattle.spec_arithmetic.specs.Contradictions.{Negation, is_nought, is_below, are_numbers, negation_of, given, paired, paired_with, numbered, where_true, without_term, parts_of, Failure, as_failure, judged_parts, judged_pairs, la_generic}
use Rattle.spec_arithmetic.proofs.Zero.{times-one_left}
use Rattle.spec_arithmetic.proofs.FormValues.{subtracting_fair, form_value_reduced}
use Rattle.spec_arithmetic.proofs.FormNumbers.{form_number}
use Rattle.spec_simplex.specs.Constraints as constraints
use Rattle.spec_simplex.specs.Constraints.{equals, above, below, saying, constraint_by}
use Rattle.spec_simplex.specs.Weights.{Summand, IsSummand, weighted_sum, has_strict, CannotHold, IsTakenOrWide}
use Rattle.spec_simplex.proofs.LowestForms.{AreNumbers, combined_parts}
use Rattle.spec_simplex.proofs.Reversed.{lowest_proper, difference_lowest, difference_parts}
use Rattle.spec_simplex.proofs.Tidy.{zeros, zeros_reduced}
use Rattle.spec_simplex.proofs.Refuting.{clause_taken}

-- the form of a difference is the same, whatever atom makes it
other_atom : (a b s t : Term) (f : Form) → difference a s t ≡ Ok f → difference b s t ≡ Ok f
unfolding difference ◌>>=◌
other_atom a b s t f e =
    let d = difference_parts a s t f e in
    (λ i. d.left_is i >>= λ g. form t >>= λ h. at_term b (combined subtracting g h))
    ∙ (λ i. d.right_is i >>= λ h. at_term b (combined subtracting d.left h))
    ∙ ap (at_term b) d.combined

-- and so is its overflow, but for the atom
same_difference : (a b s t : Term) → without_term (difference a s t) ≡ without_term (difference b s t)
unfolding difference ◌>>=◌
same_difference a b s t = go (form s) (form t)
  where
    last : (c : Answer Form) → without_term (at_term a c) ≡ without_term (at_term b c)
    last (Ok f) = refl
    last (Err w) = refl

    go : (x y : Result Form Fault) → without_term (x >>= λ f. y >>= λ g. at_term a (combined subtracting f g)) ≡ without_term (x >>= λ f. y >>= λ g. at_term b (combined subtracting f g))
    go (Ok f) (Ok g) = last (combined subtracting f g)
    go (Ok f) (Err e) = refl
    go (Err e) y = refl

-- a clause of two literals by what their negations say
abbrev judged_two : Negation → Fraction → Negation → Fraction → Result (Unit {0}) Failure
judged_two n c m d = as_failure (parts_of ((n, c) ∷ (m, d) ∷ [])) >>= λ qs. judged_parts qs

-- an equality of numbers
module _ (s t : Term) (left : sort_of s ≡ Number) (right : sort_of t ≡ Number) where
  abbrev equality : Term
  equality = pair Equal s t

  -- that it holds
  abbrev equal : Negation
  equal = sums.saying is_nought equality s t

  are_both : are_numbers s t ≡ true
  are_both = λ i. same_sort (left i) Number && same_sort (right i) Number

  are_back : are_numbers t s ≡ true
  are_back = λ i. same_sort (right i) Number && same_sort (left i) Number

  judged_forth : (c d : Fraction) → la_generic (negated equality ∷ pair AtMost s t ∷ []) (given c ∷ given d ∷ []) ≡ judged_two equal c (sums.saying is_below (pair AtMost s t) t s) d
  unfolding la_generic paired numbered negation_of ◌>>=◌
  judged_forth c d = λ i. judged_pairs (paired_with (where_true (are_both i) equal) (given c) (paired_with (where_true (are_both i) (sums.saying is_below (pair AtMost s t) t s)) (given d) (Some [])))

  judged_back : (c d : Fraction) → la_generic (negated equality ∷ pair AtMost t s ∷ []) (given c ∷ given d ∷ []) ≡ judged_two equal c (sums.saying is_below (pair AtMost t s) s t) d
  unfolding la_generic paired numbered negation_of ◌>>=◌
  judged_back c d = λ i. judged_pairs (paired_with (where_true (are_both i) equal) (given c) (paired_with (where_true (are_back i) (sums.saying is_below (pair AtMost t s) s t)) (given d) (Some [])))

  judged_less : (c d : Fraction) → la_generic (negated equality ∷ negated (pair Less s t) ∷ []) (given c ∷ given d ∷ []) ≡ judged_two equal c (sums.saying is_below (pair Less s t) s t) d
  unfolding la_generic paired numbered negation_of ◌>>=◌
  judged_less c d = λ i. judged_pairs (paired_with (where_true (are_both i) equal) (given c) (paired_with (where_true (are_both i) (sums.saying is_below (pair Less s t) s t)) (given d) (Some [])))

  -- where the form of the equality is too wide, so is the clause
  wide_two : (c : Fraction) (m : Negation) (d : Fraction) (e : Fault) → difference equality s t ≡ Err e → IsTakenOrWide (judged_two equal c m d)
  unfolding parts_of ◌>>=◌
  wide_two c m d e is = subst IsTakenOrWide (sym (λ i. as_failure (without_term (is i) >>= λ f. parts_of ((m, d) ∷ []) >>= λ r. Ok (record { relation = is_nought; form = f; weight = c } ∷ r)) >>= λ qs. judged_parts qs)) tt

  -- the strict order has the same form, by whatever atom
  back_less : (c d : Fraction) → judged_two equal c (sums.saying is_below (pair Less s t) s t) d ≡ judged_two equal c (sums.saying is_below (pair AtMost t s) s t) d
  unfolding parts_of ◌>>=◌
  back_less c d = λ i. as_failure (without_term (difference equality s t) >>= λ f.
      (same_difference (pair Less s t) (pair AtMost t s) s t i >>= λ g. Ok [] >>= λ r. Ok (record { relation = is_below; form = g; weight = d } ∷ r))
      >>= λ r. Ok (record { relation = is_nought; form = f; weight = c } ∷ r)) >>= λ qs. judged_parts qs

  -- the equality and an order of its sides as summands
  module _ (f : Form) (has : difference equality s t ≡ Ok f) (positive : 0 < f.constant.den) where
    value_reduced : (n : Term → Fraction) → AreNumbers n → IsReduced (form_value n f)
    value_reduced n u = form_value_reduced n f (lowest_proper n u f (difference_lowest equality s t f has positive))

    abbrev summand_equal : Fraction → Summand
    summand_equal w = record { literal = record { atom = equality; positive = true }; constraint = saying equals equality s t; form = f; weight = w }

    abbrev summand_above : Summand
    summand_above = record { literal = record { atom = pair AtMost s t; positive = false }; constraint = saying above (pair AtMost s t) s t; form = f; weight = one_fraction }

    abbrev summand_below : Summand
    summand_below = record { literal = record { atom = pair Less s t; positive = true }; constraint = saying below (pair Less s t) s t; form = f; weight = one_fraction }

    equal_is : (w : Fraction) → IsReduced w → IsSummand (summand_equal w)
    unfolding constraint_by
    equal_is w r = record { says = λ i. constraints.where_true (are_both i) (saying equals equality s t); has = has; reduced = r }

    above_is : IsSummand summand_above
    unfolding constraint_by
    above_is = record {
      says = λ i. constraints.where_true (are_both i) (saying above (pair AtMost s t) s t);
      has = other_atom equality (pair AtMost s t) s t f has;
      reduced = one-reduced;
    }

    below_is : IsSummand summand_below
    unfolding constraint_by
    below_is = record {
      says = λ i. constraints.where_true (are_both i) (saying below (pair Less s t) s t);
      has = other_atom equality (pair Less s t) s t f has;
      reduced = one-reduced;
    }

    -- the form and its opposite, each once
    times_one : (v : Fraction) → IsReduced v → times (size one_fraction) v ≡ v
    unfolding size
    times_one v r = times-one_left v r

    times_minus : (v : Fraction) → IsReduced v → times (opposite one_fraction) v ≡ opposite v
    times_minus v r = sym (opposite-times one_fraction v) ∙ ap opposite (times-one_left v r)

    forth_zero : (v : Fraction) → IsReduced v → plus (times one_fraction v) (plus (times (opposite (size one_fraction)) v) zero_fraction) ≡ zero_fraction
    unfolding size
    forth_zero v r =
        (λ i. plus (times-one_left v r i) (plus (times_minus v r i) zero_fraction))
        ∙ ap (plus v) (plus-zero (opposite v) (opposite-reduced v r)) ∙ plus-opposite v r

    back_zero : (v : Fraction) → IsReduced v → plus (times (opposite one_fraction) v) (plus (times (size one_fraction) v) zero_fraction) ≡ zero_fraction
    back_zero v r =
        (λ i. plus (times_minus v r i) (plus (times_one v r i) zero_fraction))
        ∙ ap (plus (opposite v)) (plus-zero v r) ∙ plus-comm (opposite v) v ∙ plus-opposite v r

    forth_not : CannotHold (summand_equal one_fraction ∷ summand_above ∷ [])
    unfolding weighted_sum has_strict is_zero is_above_zero
    forth_not = record { sum = zero_fraction; reduced = zero-reduced; same = λ n u. forth_zero (form_value n f) (value_reduced n u); sign = refl }

    back_not : CannotHold (summand_equal (opposite one_fraction) ∷ summand_below ∷ [])
    unfolding weighted_sum has_strict is_zero is_above_zero
    back_not = record { sum = zero_fraction; reduced = zero-reduced; same = λ n u. back_zero (form_value n f) (value_reduced n u); sign = refl }

    forth_has : IsTakenOrWide (la_generic (negated equality ∷ pair AtMost s t ∷ []) (given one_fraction ∷ given one_fraction ∷ []))
    forth_has = clause_taken (summand_equal one_fraction ∷ summand_above ∷ []) (equal_is one_fraction one-reduced, (above_is, tt)) forth_not

    back_has : IsTakenOrWide (la_generic (negated equality ∷ pair AtMost t s ∷ []) (given (opposite one_fraction) ∷ given one_fraction ∷ []))
    back_has = subst IsTakenOrWide (judged_less (opposite one_fraction) one_fraction ∙ back_less (opposite one_fraction) one_fraction ∙ sym (judged_back (opposite one_fraction) one_fraction))
        (clause_taken (summand_equal (opposite one_fraction) ∷ summand_below ∷ []) (equal_is (opposite one_fraction) (opposite-reduced one_fraction one-reduced), (below_is, tt)) back_not)

  -- the form of well-sorted sides has a number as its constant
  module _ (symbols : List Symbol) (left_sorted : IsWellSorted symbols [] s) (right_sorted : IsWellSorted symbols [] t) where
    constant_positive : (f : Form) → difference equality s t ≡ Ok f → 0 < f.constant.den
    constant_positive f e =
        let d = difference_parts equality s t f e in
        let one = (form_number symbols zeros zeros_reduced s d.left d.left_is (record { term = left_sorted; sort = left })).proper.constant in
        let two = (form_number symbols zeros zeros_reduced t d.right d.right_is (record { term = right_sorted; sort = right })).proper.constant in
        let c = combined_parts subtracting subtracting_fair d.left d.right f d.combined in
        subst (λ (q : Fraction). 0 < q.den) c.constant (plus-reduced d.left.constant (opposite d.right.constant) one.positive (opposite-reduced d.right.constant two).positive).positive

    pub forth_taken : IsTakenOrWide (la_generic (negated equality ∷ pair AtMost s t ∷ []) (given one_fraction ∷ given one_fraction ∷ []))
    forth_taken = go (difference equality s t) refl
      where
        go : (r : Result Form Fault) → difference equality s t ≡ r → IsTakenOrWide (la_generic (negated equality ∷ pair AtMost s t ∷ []) (given one_fraction ∷ given one_fraction ∷ []))
        go (Ok f) e = forth_has f e (constant_positive f e)
        go (Err w) e = subst IsTakenOrWide (sym (judged_forth one_fraction one_fraction)) (wide_two one_fraction _ one_fraction w e)

    pub back_taken : IsTakenOrWide (la_generic (negated equality ∷ pair AtMost t s ∷ []) (given (opposite one_fraction) ∷ given one_fraction ∷ []))
    back_taken = go (difference equality s t) refl
      where
        go : (r : Result Form Fault) → difference equality s t ≡ r → IsTakenOrWide (la_generic (negated equality ∷ pair AtMost t s ∷ []) (given (opposite one_fraction) ∷ given one_fraction ∷ []))
        go (Ok f) e = back_has f e (constant_positive f e)
        go (Err w) e = subst IsTakenOrWide (sym (judged_back (opposite one_fraction) one_fraction)) (wide_two (opposite one_fraction) _ one_fraction w e)
