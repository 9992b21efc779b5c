-- The bounds of variables that literals of linear arithmetic state.
-- Source: Dutertre and de Moura, A Fast Linear-Arithmetic Solver for DPLL(T), CAV 2006.
use Rattle.std.specs.Prelude.{◌≡◌, ◌⊎◌, ℕ, ◌<◌, Bool, true, false, not, List, length, Option, Some, None, Ok, Contains}
use Rattle.std.specs.Prelude.{All}
use Rattle.spec_sorts.specs.Terms.{Term}
use Rattle.spec_sorts.specs.Literals.{Literal}
use Rattle.spec_arithmetic.specs.Forms.{Form, variables_value}
use Rattle.spec_tableaux.specs.Fields.{is_positive}
use Rattle.spec_tableaux.specs.Spaces.{Pair, as_space}
use Rattle.spec_tableaux.specs.Rows.{Solves}
use Rattle.spec_tableaux.specs.Ranges.{Range}
use Rattle.spec_tableaux.specs.Numbers.{Number, numbers}
use Rattle.spec_tableaux.specs.Points.{Ranges}
use Rattle.spec_simplex.specs.Constraints.{Relation, below, at_most, equals, at_least, above, Constraint, constraint_of}
use Rattle.spec_simplex.specs.Constraints.{form_of}
use Rattle.spec_causes.specs.TermTableau.{TermTableau, owner_in, AreOwned}

-- A side on which a variable is bounded.
pub data Side : Type 0 where
  lower upper : Side

-- the bound of a range on a side
abbrev pub bound_on : Side → Range (Pair Number) → Option (Pair Number)
bound_on lower r = r.lower
bound_on upper r = r.upper

-- the side on which a variable is bounded where its multiple is at most a number, by whether the factor is above 0
abbrev pub side_by : Bool → Side
side_by true = upper
side_by false = lower

-- a variable is bounded on this side where its multiple compares so with a number, by whether the factor is above 0
abbrev pub IsSideOf : Relation → Bool → Side → Type 0
IsSideOf below up side = side ≡ side_by up
IsSideOf at_most up side = side ≡ side_by up
IsSideOf equals up side = Unit {0}
IsSideOf at_least up side = side ≡ side_by (not up)
IsSideOf above up side = side ≡ side_by (not up)

-- the relation keeps a form off 0 itself
abbrev pub is_strict : Relation → Bool
is_strict below = true
is_strict above = true
is_strict r = false

-- the tilt of a bound on a side, by whether it is strict
abbrev pub tilt_by : Side → Bool → Number
tilt_by lower true = numbers.one
tilt_by upper true = numbers.opposite numbers.one
tilt_by side false = numbers.zero

-- Wherever the rows hold, the variables of a form come to the factor, which is not 0, times the variable y; if this
-- stands for a row, to it
-- or to its opposite.
pub record IsMultiple (s : TermTableau) (f : Form) (factor : Number) (y : ℕ) : Type 0 where
  pub nonzero : numbers.is_zero factor ≡ false
  pub there : y < length s.owners
  pub unit : owner_in s.owners y ≡ None → (factor ≡ numbers.one) ⊎ (factor ≡ numbers.opposite numbers.one)
  pub value : (n : Term → Number) (v : ℕ → Number) → AreOwned s.owners n v → Solves (as_space numbers) v s.listed
      → variables_value (λ u. (n u).fraction) f.variables ≡ (numbers.times factor (v y)).fraction

-- A literal bounds the variable y on a side: its form is a multiple of y but for a constant.
pub record IsBound (s : TermTableau) (l : Literal) (y : ℕ) (side : Side) (b : Pair Number) : Type 0 where
  -- what the literal says
  pub constraint : Constraint
  pub says : constraint_of l ≡ Some constraint
  -- of this form
  pub form : Form
  pub has : form_of constraint ≡ Ok form
  -- which is a multiple of the variable
  pub factor : Number
  pub multiple : IsMultiple s form factor y
  -- and a constant
  pub constant : Number
  pub constant_is : constant.fraction ≡ form.constant
  -- the bound is minus the constant, over the factor, and off that by an infinitesimal where the literal is strict
  pub on_side : IsSideOf constraint.relation (is_positive numbers factor) side
  pub is : b ≡ record {
    base = numbers.times (numbers.opposite constant) (numbers.inverse factor);
    tilt = tilt_by side (is_strict constraint.relation);
  }

-- Each bound of the ranges is one that a literal states whose atom is among terms.
pub record AreBounds (ts : List Term) (s : TermTableau) (ranges : Ranges) : Type 0 where
  -- the literals
  pub literals : List Literal
  pub atoms : All (λ l. Contains ts l.atom) literals
  pub stated : (y : ℕ) (side : Side) (b : Pair Number) → bound_on side (ranges y) ≡ Some b
      → (l : Literal) × Contains literals l × IsBound s l y side b
