-- A literal says something of the form of its atom, positively or not.
use Rattle.std.proofs.Common.{◌≡◌, Bool, true, false, Some, None, refl, sym, ◌∙◌, ap}
use Rattle.std.proofs.lemmas.Option.{none-some, same_Some}
use Rattle.spec_sorts.specs.Terms.{Less, AtMost, Term, app, nil, cons, pair}
use Rattle.spec_arithmetic.specs.Contradictions.{are_numbers}
use Rattle.spec_simplex.specs.Constraints.{Relation, below, at_most, at_least, above, Constraint, saying, where_true, constraint_by, form_of}

one_form : (q : Bool) (r s : Relation) (atom x y : Term) (c d : Constraint) → where_true q (saying r atom x y) ≡ Some c → where_true q (saying s atom x y) ≡ Some d → form_of d ≡ form_of c
one_form false r s atom x y c d e f = absurd (none-some c e)
one_form true r s atom x y c d e f = sym (ap form_of (same_Some (saying s atom x y) d f)) ∙ ap form_of (same_Some (saying r atom x y) c e)

negated_form : (u : Term) (c d : Constraint) → constraint_by true u ≡ Some c → constraint_by false u ≡ Some d → form_of d ≡ form_of c
unfolding constraint_by
negated_form (app Less (cons s (cons u nil))) c d e f = one_form (are_numbers s u) below at_least (pair Less s u) s u c d e f
negated_form (app AtMost (cons s (cons u nil))) c d e f = one_form (are_numbers s u) at_most above (pair AtMost s u) s u c d e f
negated_form u c d e f = absurd (none-some d f)

-- a literal's form is that of its atom
pub form_same : (u : Term) (positive : Bool) (c d : Constraint) → constraint_by true u ≡ Some c → constraint_by positive u ≡ Some d → form_of d ≡ form_of c
form_same u true c d e f = ap form_of (same_Some d c (sym f ∙ e))
form_same u false c d e f = negated_form u c d e f

none_both : (q : Bool) (c d : Constraint) → where_true q c ≡ None → where_true q d ≡ None
none_both false c d e = refl
none_both true c d e = absurd (none-some c (sym e))

negated_nothing : (u : Term) → constraint_by true u ≡ None → constraint_by false u ≡ None
unfolding constraint_by
negated_nothing (app Less (cons s (cons u nil))) e = none_both (are_numbers s u) (saying below (pair Less s u) s u) (saying at_least (pair Less s u) s u) e
negated_nothing (app AtMost (cons s (cons u nil))) e = none_both (are_numbers s u) (saying at_most (pair AtMost s u) s u) (saying above (pair AtMost s u) s u) e
negated_nothing u e = refl

-- where the atom says nothing, no literal of it does
pub says_nothing : (u : Term) (positive : Bool) → constraint_by true u ≡ None → constraint_by positive u ≡ None
says_nothing u true e = e
says_nothing u false e = negated_nothing u e
