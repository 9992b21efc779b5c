-- What literals of linear arithmetic say that hold: how the form of an atom compares with 0.
use Rattle.std.specs.Prelude.{◌≡◌, Bool, true, false, List, Option, Some, None, Result, Ok, All}
use Rattle.spec_sorts.specs.Terms.{Head, Equal, Less, AtMost, Term, app, nil, cons, pair}
use Rattle.spec_sorts.specs.Literals.{Literal}
use Rattle.spec_arithmetic.specs.Forms.{Form, Fault, difference}
use Rattle.spec_arithmetic.specs.Contradictions.{are_numbers}

-- How a form compares with 0.
pub data Relation : Type 0 where
  -- it is below 0, at most 0, 0, at least 0, or above 0
  below at_most equals at_least above : Relation

-- What a literal says: how the difference of the sides of its atom compares with 0.
pub record Constraint : Type 0 where
  -- how it compares with 0
  pub relation : Relation
  -- the atom of both sides
  pub atom : Term
  -- the side that the other is subtracted from
  pub left : Term
  -- and the other
  pub right : Term

-- a constraint on the sides of an atom
abbrev pub saying : Relation → Term → Term → Term → Constraint
saying r atom s t = record { relation = r; atom = atom; left = s; right = t }

-- the constraint, where the test holds
abbrev pub where_true : Bool → Constraint → Option Constraint
where_true true c = Some c
where_true false c = None

-- what an atom of this head says, where its sides are of sort Real
abbrev pub of_numbers : Relation → Head → Term → Term → Option Constraint
of_numbers r h s t = where_true (are_numbers s t) (saying r (pair h s t) s t)

-- what an atom says that is meant positively or not; that numbers differ is no constraint
unfoldable pub constraint_by : Bool → Term → Option Constraint
constraint_by true (app Less (cons s (cons t nil))) = of_numbers below Less s t
constraint_by false (app Less (cons s (cons t nil))) = of_numbers at_least Less s t
constraint_by true (app AtMost (cons s (cons t nil))) = of_numbers at_most AtMost s t
constraint_by false (app AtMost (cons s (cons t nil))) = of_numbers above AtMost s t
constraint_by true (app Equal (cons s (cons t nil))) = of_numbers equals Equal s t
constraint_by positive t = None

-- what a literal says, where it is one of linear arithmetic
abbrev pub constraint_of : Literal → Option Constraint
constraint_of l = constraint_by l.positive l.atom

-- the form of a constraint: its left side minus its right one, or the first operation that leaves 128 bits
abbrev pub form_of : Constraint → Result Form Fault
form_of c = difference c.atom c.left c.right

-- a literal that says something of linear arithmetic has a form
abbrev pub HasForm : Literal → Type 0
HasForm l = (c : Constraint) → constraint_of l ≡ Some c → (f : Form) × (form_of c ≡ Ok f)

-- and each of these literals
abbrev pub HaveForms : List Literal → Type 0
HaveForms ls = All HasForm ls
