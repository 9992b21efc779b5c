-- An operation of simplex, or of a search of a problem, comes to the overflow of one operation on fractions.
use Rattle.std.proofs.Common.{ℕ, Bool, List, [], ◌∷◌, inl, inr, subst}
use Rattle.spec_numbers.specs.Fractions.{one_fraction, opposite}
use Rattle.spec_numbers.specs.Bounds.{Overflow}
use Rattle.spec_sorts.specs.Terms.{Term}
use Rattle.spec_sorts.specs.Literals.{Literal}
use Rattle.spec_arithmetic.specs.Forms.{form, difference}
use Rattle.spec_tableaux.specs.Rows.{Entry}
use Rattle.spec_tableaux.specs.Numbers.{Number}
use Rattle.spec_tableaux.specs.Points.{Ranges, point_in}
use Rattle.spec_simplex.specs.Overflows.{IsOverflow}
use Rattle.spec_simplex.proofs.Failing.{of_fault}
use Rattle.spec_simplex.proofs.Operations.{quotient_overflows}
use Rattle.spec_simplex.proofs.FormFaults.{IsFault, form_fails, difference_fails}
use Rattle.spec_simplex.proofs.RuleFaults.{numbers_too_wide}
use Rattle.spec_derivations.specs.Problems.{Problem}
use Rattle.spec_causes.specs.TermTableau.{TermTableau, state_in}
use Rattle.spec_causes.specs.Shared.{OverflowsTerm, in_form, in_sum, by_constant}
use Rattle.spec_causes.specs.Reasons.{literals_in, weights_in, OverflowsReasons, weighing, adding}
use Rattle.spec_causes.specs.Causes.{OverflowsForm, OverflowsAt, forming, bounding, adding_row, checking, explaining, valuing, finding, evaluating, evaluating_shared}
use Rattle.spec_causes.specs.Checks.{IsOverflowAmong, IsOverflowed, growing, ordering, reckoning}
use Rattle.spec_causes.specs.Checks as problem
use Rattle.spec_causes.proofs.CheckFaults.{check_overflows, value_overflows, new_overflows}
use Rattle.spec_causes.proofs.DeltaFaults.{delta_sum_overflows, delta_value_overflows}
use Rattle.spec_causes.proofs.NumberFaults.{number_overflows, value_at_overflows}
use Rattle.spec_simplex.specs.Weights.{denial}
use Rattle.std.specs.Prelude.{map}

form_overflows : (ts : List Term) (o : Overflow) → OverflowsForm ts o → IsOverflow o
form_overflows ts o w =
    subst IsOverflow w.is (of_fault IsFault (difference w.constraint.atom w.constraint.left w.constraint.right) w.fault
    (difference_fails w.constraint.atom w.constraint.left w.constraint.right) w.fails)

reasons_overflow : (s : TermTableau) (held : List Literal) (ranges : Ranges) (up : Bool) (es : List (Entry Number)) (o : Overflow)
    → OverflowsReasons s held ranges up es o → IsOverflow o
reasons_overflow s held ranges up es o (weighing e has l stop w) = quotient_overflows _ _ o w
reasons_overflow s held ranges up es o (adding xs are w) = numbers_too_wide (map denial (literals_in xs)) (weights_in xs) o w

term_overflows : (s : TermTableau) (u : Term) (o : Overflow) → OverflowsTerm s u o → IsOverflow o
term_overflows s u o (in_form fault fails is) = subst IsOverflow is (of_fault IsFault (form u) fault (form_fails u) fails)
term_overflows s u o (in_sum f has w) = value_overflows (point_in s.values) w.entries o w.may_overflow
term_overflows s u o (by_constant f has sum is w) = delta_sum_overflows _ _ o w

pub cause_overflows : (ts : List Term) (s : TermTableau) (o : Overflow) → OverflowsAt ts s o → IsOverflow o
cause_overflows ts s o (forming w) = form_overflows ts o w
cause_overflows ts s o (bounding f among u k is w) = quotient_overflows _ _ o w
cause_overflows ts s o (adding_row f among gs are w) = new_overflows (state_in s) gs o w
cause_overflows ts s o (checking ranges bounds w) = check_overflows ranges (state_in s) o w
cause_overflows ts s o (explaining ranges bounds up es conflict w) = reasons_overflow s bounds.literals ranges up es o w
cause_overflows ts s o (valuing u shared w) = term_overflows s u o w
cause_overflows ts s o (finding ranges bounds within apart values w) = number_overflows ranges (point_in s.values) apart o w
cause_overflows ts s o (evaluating ranges bounds within apart values e is w) = value_at_overflows e s o w
cause_overflows ts s o (evaluating_shared ranges bounds within apart values e is p shared w) = delta_value_overflows _ _ o w

among_overflows : (terms : List Term) (o : Overflow) → IsOverflowAmong terms o → IsOverflow o
among_overflows terms o w = elim w.leaves [
  | inl h ↦ numbers_too_wide _ (one_fraction ∷ one_fraction ∷ []) o h
  | inr h ↦ numbers_too_wide _ (opposite one_fraction ∷ one_fraction ∷ []) o h
]

pub strain_overflows : (p : Problem) (l : ℕ) (es : List (ℕ × ℕ)) (o : Overflow) → IsOverflowed p l es o → IsOverflow o
strain_overflows p l es o (problem.forming unlearned none w) = form_overflows _ o w
strain_overflows p l es o (growing s runs at few w) = among_overflows _ o w
strain_overflows p l es o (ordering unlearned none w) = among_overflows _ o w
strain_overflows p l es o (reckoning s runs at few w) = cause_overflows _ s o w
