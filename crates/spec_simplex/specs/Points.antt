-- Points, at which variables have numbers with an infinitesimal part, and what literals say of them.
-- Source: Dutertre and de Moura, CAV 2006.
use Rattle.std.specs.Prelude.{◌≡◌, Bool, true, not, ◌&&◌, ◌||◌, List, Some, Ok, All, pos}
use Rattle.std.specs.Int.RustNames.{int_lt}
use Rattle.spec_numbers.specs.Fractions.{Fraction}
use Rattle.spec_sorts.specs.Terms.{Term}
use Rattle.spec_sorts.specs.Literals.{Literal}
use Rattle.spec_arithmetic.specs.Signs.{is_zero, is_above_zero}
use Rattle.spec_arithmetic.specs.Forms.{Form, variables_value, form_value}
use Rattle.spec_tableaux.specs.Spaces.{Pair}
use Rattle.spec_tableaux.specs.Numbers.{Number}
use Rattle.spec_simplex.specs.Constraints.{Relation, below, at_most, equals, at_least, above, Constraint, constraint_of}
use Rattle.spec_simplex.specs.Constraints.{form_of}

-- the value of each variable: a number, and a multiple of an infinitesimal
abbrev pub Point : Type 0
Point = Term → Pair Number

-- the numbers of a point
abbrev pub bases : Point → Term → Fraction
bases p t = (p t).base.fraction

-- its multiples of an infinitesimal
abbrev pub tilts : Point → Term → Fraction
tilts p t = (p t).tilt.fraction

-- the number that a form has at a point
abbrev pub base_at : Point → Form → Fraction
base_at p f = form_value (bases p) f

-- the multiple of an infinitesimal that a form has at a point: its constant has none
abbrev pub tilt_at : Point → Form → Fraction
tilt_at p f = variables_value (tilts p) f.variables

-- the fraction is below 0
unfoldable pub is_below_zero : Fraction → Bool
is_below_zero x = int_lt x.num (pos 0)

-- a number with a tilt is above 0: in the order by base, then tilt
unfoldable pub is_over : Fraction → Fraction → Bool
is_over base tilt = is_above_zero base || (is_zero base && is_above_zero tilt)

-- a number with a tilt is below 0
unfoldable pub is_under : Fraction → Fraction → Bool
is_under base tilt = is_below_zero base || (is_zero base && is_below_zero tilt)

-- a number with a tilt compares so with 0
abbrev pub relates : Relation → Fraction → Fraction → Bool
relates below base tilt = is_under base tilt
relates at_most base tilt = not (is_over base tilt)
relates equals base tilt = is_zero base && is_zero tilt
relates at_least base tilt = not (is_under base tilt)
relates above base tilt = is_over base tilt

-- a form has a value at a point that compares so with 0
abbrev pub FormHolds : Relation → Point → Form → Type 0
FormHolds r p f = relates r (base_at p f) (tilt_at p f) ≡ true

-- a point keeps a literal: what it says of a form is so; nothing is asked where it says nothing, or has no form
abbrev pub KeepsLiteral : Point → Literal → Type 0
KeepsLiteral p l = (c : Constraint) → constraint_of l ≡ Some c → (f : Form) → form_of c ≡ Ok f
    → FormHolds c.relation p f

-- a point keeps each of the literals
abbrev pub SatisfiesLiterals : Point → List Literal → Type 0
SatisfiesLiterals p ls = All (KeepsLiteral p) ls

-- there is a point that keeps them
abbrev pub IsFeasible : List Literal → Type 0
IsFeasible ls = (p : Point) × SatisfiesLiterals p ls

-- there is none
abbrev pub IsInfeasible : List Literal → Type 0
IsInfeasible ls = (p : Point) → SatisfiesLiterals p ls → ⊥
