-- The sides of what a literal of a well-sorted atom says are well-sorted numbers.
use Rattle.std.proofs.Common.{◌≡◌, Bool, true, false, List, [], Some, refl, subst}
use Rattle.std.proofs.lemmas.Bool.{and_parts}
use Rattle.std.proofs.lemmas.Option.{same_Some, none-some}
use Rattle.spec_sorts.specs.Terms.{Number, same_sort, Symbol, Head, Equal, Less, AtMost, Term, app, nil, cons, pair, sort_of}
use Rattle.spec_sorts.specs.WellSorted.{IsWellSorted}
use Rattle.spec_sorts.proofs.WellSorted.{same_sort_is}
use Rattle.spec_arithmetic.specs.Contradictions.{are_numbers}
use Rattle.spec_arithmetic.proofs.Reals.{IsReal, first_argument, second_argument}
use Rattle.spec_simplex.specs.Constraints.{Relation, below, at_most, equals, at_least, above, Constraint, saying, where_true, constraint_by}

module _ (symbols : List Symbol) where
  -- both sides are numbers
  abbrev pub AreReal : Constraint → Type 0
  AreReal c = IsReal symbols c.left × IsReal symbols c.right

  of_pair : (h : Head) (r : Relation) (s t : Term) (c : Constraint) → IsWellSorted symbols [] (pair h s t) → (q : Bool) → are_numbers s t ≡ q → where_true q (saying r (pair h s t) s t) ≡ Some c → AreReal c
  of_pair h r s t c w false n e = absurd (none-some c e)
  of_pair h r s t c w true n e =
      let parts = and_parts (same_sort (sort_of s) Number) (same_sort (sort_of t) Number) n in
      subst AreReal (same_Some (saying r (pair h s t) s t) c e) (
        record { term = first_argument symbols h s (cons t nil) w; sort = same_sort_is (sort_of s) Number parts.0 },
        record { term = second_argument symbols h s t nil w; sort = same_sort_is (sort_of t) Number parts.1 },
      )

  pub real_sides : (positive : Bool) (u : Term) (c : Constraint) → IsWellSorted symbols [] u → constraint_by positive u ≡ Some c → AreReal c
  unfolding constraint_by
  real_sides true (app Less (cons s (cons t nil))) c w e = of_pair Less below s t c w (are_numbers s t) refl e
  real_sides false (app Less (cons s (cons t nil))) c w e = of_pair Less at_least s t c w (are_numbers s t) refl e
  real_sides true (app AtMost (cons s (cons t nil))) c w e = of_pair AtMost at_most s t c w (are_numbers s t) refl e
  real_sides false (app AtMost (cons s (cons t nil))) c w e = of_pair AtMost above s t c w (are_numbers s t) refl e
  real_sides true (app Equal (cons s (cons t nil))) c w e = of_pair Equal equals s t c w (are_numbers s t) refl e
  real_sides positive u c w e = absurd (none-some c e)
