-- By which operations simplex leaves the bound on fractions in its state.
-- Source: Dutertre and de Moura, A Fast Linear-Arithmetic Solver for DPLL(T), CAV 2006.
use Rattle.std.specs.Prelude.{◌≡◌, ◌⊎◌, ℕ, Bool, true, false, List, [], ◌∷◌, Option, Some, None, Err, Contains}
use Rattle.spec_numbers.specs.Fractions.{Fraction, opposite}
use Rattle.spec_numbers.specs.Bounds.{Overflow, divided}
use Rattle.spec_sorts.specs.Terms.{Term}
use Rattle.spec_arithmetic.specs.Forms.{Form, Fault}
use Rattle.spec_tableaux.specs.Spaces.{Pair}
use Rattle.spec_tableaux.specs.Ranges.{Range, is_within}
use Rattle.spec_tableaux.specs.Rows.{Entry}
use Rattle.spec_tableaux.specs.Numbers.{Number, numbers}
use Rattle.spec_tableaux.specs.Deltas.{delta_evaluated}
use Rattle.spec_tableaux.specs.Points.{deltas, Ranges, point_in, delta_in}
use Rattle.spec_tableaux.specs.BoundsOverflows.{CheckOverflows, OverflowsNew}
use Rattle.spec_tableaux.specs.Halves.{is_less, IsSteeper, halfway, OverflowsNumber}
use Rattle.spec_simplex.specs.Constraints.{Constraint, constraint_of, form_of}
use Rattle.spec_causes.specs.TermTableau.{TermTableau, owner_in, state_in, AreEntriesOf}
use Rattle.spec_causes.specs.Shared.{IsSharedAmong, OverflowsTerm, IsSharedValue, AreSharedValues}
use Rattle.spec_causes.specs.Bounds.{AreBounds}
use Rattle.spec_causes.specs.Reached.{IsFormAmong}
use Rattle.spec_causes.specs.Reasons.{Conflicts, OverflowsReasons}

-- The form of an atom among terms comes to the overflow o.
pub record OverflowsForm (ts : List Term) (o : Overflow) : Type 0 where
  -- the atom
  pub atom : Term
  pub there : Contains ts atom
  -- what it says
  pub constraint : Constraint
  pub says : constraint_of (record { atom = atom; positive = true }) ≡ Some constraint
  -- the first operation that fails
  pub fault : Fault
  pub fails : form_of constraint ≡ Err fault
  pub is : fault.overflow ≡ o

-- e is half of the number at which a lower bound of the value x comes to x
abbrev pub IsHalfAbove : Option (Pair Number) → Pair Number → Number → Type 0
IsHalfAbove None x e = ⊥
IsHalfAbove (Some b) x e = IsSteeper b x × (e ≡ halfway b x)

-- e is half of the number at which x comes to an upper bound of x
abbrev pub IsHalfBelow : Option (Pair Number) → Pair Number → Number → Type 0
IsHalfBelow None x e = ⊥
IsHalfBelow (Some b) x e = IsSteeper x b × (e ≡ halfway x b)

-- it is the one or the other of a range
abbrev pub IsHalfIn : Range (Pair Number) → Pair Number → Number → Type 0
IsHalfIn r x e = IsHalfAbove r.lower x e ⊎ IsHalfBelow r.upper x e

-- e is half of the number at which two of the values xs meet: the lesser has the greater tilt.
pub record IsHalfAmong (xs : List (Pair Number)) (e : Number) : Type 0 where
  pub lesser : Pair Number
  pub lesser_in : Contains xs lesser
  pub greater : Pair Number
  pub greater_in : Contains xs greater
  pub less : deltas.less lesser greater ≡ true
  pub steep : IsSteeper lesser greater
  pub is : e ≡ halfway lesser greater

-- The number that is put for the infinitesimal: the least of 1 and of some halves. Each is half of a number at which a
-- value comes to a
-- bound of it, or at which two values meet that are kept apart.
pub record IsEpsilon (ranges : Ranges) (v : ℕ → Pair Number) (apart : List (Pair Number)) (e : Number) : Type 0 where
  pub one_of : (e ≡ numbers.one) ⊎ ((y : ℕ) × IsHalfIn (ranges y) (v y) e) ⊎ IsHalfAmong apart e
  pub most_one : is_less numbers.one e ≡ false
  pub most_each : (y : ℕ) (h : Number) → IsHalfIn (ranges y) (v y) h → is_less h e ≡ false
  pub most_apart : (h : Number) → IsHalfAmong apart h → is_less h e ≡ false

-- the values keep the bounds of each variable
abbrev pub AreWithin : Ranges → (ℕ → Pair Number) → Type 0
AreWithin ranges v = (y : ℕ) → is_within deltas ranges v y ≡ true

-- The value of a variable that means a term, where the infinitesimal is e, comes to the overflow o.
pub record OverflowsValueAt (e : Number) (s : TermTableau) (o : Overflow) : Type 0 where
  pub variable : ℕ
  pub term : Term
  pub represents : owner_in s.owners variable ≡ Some term
  pub leaves : delta_evaluated (delta_in (point_in s.values variable)) e.fraction ≡ Err o

-- An operation of simplex over terms comes to the overflow o in its state.
pub data OverflowsAt (ts : List Term) (s : TermTableau) (o : Overflow) : Type 0 where
  -- the form of an atom
  forming : OverflowsForm ts o → OverflowsAt ts s o
  -- the bound of an atom whose form has one variable: minus the constant, over its coefficient
  bounding : (f : Form) → IsFormAmong ts f → (u : Term) (k : Fraction) → f.variables ≡ (u, k) ∷ []
      → divided (opposite f.constant) k ≡ Err o → OverflowsAt ts s o
  -- the row of an atom, or its value
  adding_row : (f : Form) → IsFormAmong ts f → (gs : List (Entry Number)) → AreEntriesOf s.owners gs f.variables
      → OverflowsNew (state_in s) gs o → OverflowsAt ts s o
  -- a step of a check
  checking : (ranges : Ranges) → AreBounds ts s ranges → CheckOverflows ranges (state_in s) o → OverflowsAt ts s o
  -- the reasons for a conflict
  explaining : (ranges : Ranges) → (bounds : AreBounds ts s ranges) → (up : Bool) (es : List (Entry Number))
      → Conflicts ranges (state_in s) up es → OverflowsReasons s bounds.literals ranges up es o → OverflowsAt ts s o
  -- the value of a shared term
  valuing : (u : Term) → IsSharedAmong ts u → OverflowsTerm s u o → OverflowsAt ts s o
  -- a number for the infinitesimal, with some values of shared terms kept apart
  finding : (ranges : Ranges) → AreBounds ts s ranges → AreWithin ranges (point_in s.values)
      → (apart : List (Pair Number)) → AreSharedValues ts s apart
      → OverflowsNumber ranges (point_in s.values) apart o → OverflowsAt ts s o
  -- a value where the infinitesimal is such a number
  evaluating : (ranges : Ranges) → AreBounds ts s ranges → AreWithin ranges (point_in s.values)
      → (apart : List (Pair Number)) → AreSharedValues ts s apart
      → (e : Number) → IsEpsilon ranges (point_in s.values) apart e → OverflowsValueAt e s o → OverflowsAt ts s o
  -- the value of a shared term there
  evaluating_shared : (ranges : Ranges) → AreBounds ts s ranges → AreWithin ranges (point_in s.values)
      → (apart : List (Pair Number)) → AreSharedValues ts s apart
      → (e : Number) → IsEpsilon ranges (point_in s.values) apart e
      → (p : Pair Number) → IsSharedValue ts s p → delta_evaluated (delta_in p) e.fraction ≡ Err o → OverflowsAt ts s o

-- no atom among terms says anything of numbers
abbrev pub AreSilent : List Term → Type 0
AreSilent ts = (u : Term) → Contains ts u → constraint_of (record { atom = u; positive = true }) ≡ None
