-- Terms that functions and linear arithmetic share, and their values in the state of simplex.
-- Source: Nelson and Oppen, Simplification by Cooperating Decision Procedures, 1979; Dutertre and de Moura, CAV 2006.
use Rattle.std.specs.Prelude.{◌≡◌, ◌≢◌, ℕ, List, [], ◌∷◌, Option, Some, Ok, Err, Contains}
use Rattle.spec_numbers.specs.Fractions.{Fraction}
use Rattle.spec_numbers.specs.Bounds.{Overflow}
use Rattle.spec_sorts.specs.Terms.{Symbol, Equal, Apply, Term, Terms, app, list_of, sort_of, pair}
use Rattle.spec_sorts.specs.Terms.{Number as Real}
use Rattle.spec_arithmetic.specs.Forms.{Form, Fault, form}
use Rattle.spec_tableaux.specs.Spaces.{Pair}
use Rattle.spec_tableaux.specs.Rows.{Entry, sum_of}
use Rattle.spec_tableaux.specs.Numbers.{Number, numbers}
use Rattle.spec_tableaux.specs.Deltas.{delta_added}
use Rattle.spec_tableaux.specs.Deltas as exact
use Rattle.spec_tableaux.specs.Points.{deltas, point_in, delta_in}
use Rattle.spec_tableaux.specs.BoundsOverflows.{OverflowsValue}
use Rattle.spec_causes.specs.TermTableau.{TermTableau, owner_in, IsEntryOf}

-- A term of sort Real is shared among terms: functions and arithmetic both speak of it.
pub data IsSharedAmong (ts : List Term) : Term → Type 0 where
  -- as an argument of a declared function
  argument : (s : Symbol) (us : Terms) → Contains ts (app (Apply s) us) → (u : Term) → Contains (list_of us) u
      → sort_of u ≡ Real
      → IsSharedAmong ts u
  -- or as a value of one that has parameters
  value : (s : Symbol) (us : Terms) → Contains ts (app (Apply s) us) → list_of us ≢ [] → sort_of (app (Apply s) us)
      ≡ Real
      → IsSharedAmong ts (app (Apply s) us)

-- The entries are those of a form's variables that variables of simplex stand for, in order; the others have
-- none.
pub data AreOwnedEntries (owners : List (Option Term)) : List (Entry Number) → List (Term × Fraction) → Type 0 where
  -- there is no variable more
  ends : AreOwnedEntries owners [] []
  -- a variable that one stands for
  owned : (e : Entry Number) (x : Term × Fraction) (es : List (Entry Number)) (xs : List (Term × Fraction))
      → IsEntryOf owners e x
      → AreOwnedEntries owners es xs → AreOwnedEntries owners (e ∷ es) (x ∷ xs)
  -- a variable that none stands for
  left_out : (x : Term × Fraction) (es : List (Entry Number)) (xs : List (Term × Fraction))
      → ((y : ℕ) → owner_in owners y ≡ Some x.0 → ⊥)
      → AreOwnedEntries owners es xs → AreOwnedEntries owners es (x ∷ xs)

-- The sum of terms with coefficients in the state of simplex. A term without a variable counts as 0.
pub record IsSumAt (s : TermTableau) (xs : List (Term × Fraction)) (p : Pair Number) : Type 0 where
  pub entries : List (Entry Number)
  pub are : AreOwnedEntries s.owners entries xs
  pub is : p ≡ sum_of deltas (point_in s.values) entries

-- The value of a term in the state of simplex: the sum of its form's variables, and the constant.
pub record IsValueOf (s : TermTableau) (u : Term) (p : Pair Number) : Type 0 where
  pub form_of : Form
  pub has : form u ≡ Ok form_of
  pub sum : Pair Number
  pub sum_is : IsSumAt s form_of.variables sum
  pub constant : Number
  pub constant_is : constant.fraction ≡ form_of.constant
  pub is : p ≡ deltas.plus sum (record { base = constant; tilt = numbers.zero })

-- these are values of those terms, in order
abbrev pub AreValuesOf : TermTableau → List Term → List (Pair Number) → Type 0
AreValuesOf s [] [] = Unit {0}
AreValuesOf s (u ∷ us) (p ∷ ps) = IsValueOf s u p × AreValuesOf s us ps
AreValuesOf s _ _ = ⊥

-- The sum of terms with coefficients comes to the overflow o.
pub record OverflowsSumAt (s : TermTableau) (xs : List (Term × Fraction)) (o : Overflow) : Type 0 where
  pub entries : List (Entry Number)
  pub are : AreOwnedEntries s.owners entries xs
  pub may_overflow : OverflowsValue (point_in s.values) entries o

-- The value of a term comes to the overflow o.
pub data OverflowsTerm (s : TermTableau) (u : Term) (o : Overflow) : Type 0 where
  -- its form does
  in_form : (fault : Fault) → form u ≡ Err fault → fault.overflow ≡ o → OverflowsTerm s u o
  -- the sum of the form's variables does
  in_sum : (f : Form) → form u ≡ Ok f → OverflowsSumAt s f.variables o → OverflowsTerm s u o
  -- this sum and the constant do
  by_constant : (f : Form) → form u ≡ Ok f → (sum : Pair Number) → IsSumAt s f.variables sum
      → delta_added (delta_in sum) (exact.number f.constant) ≡ Err o → OverflowsTerm s u o

-- It is the value of a term that is shared among terms.
pub record IsSharedValue (ts : List Term) (s : TermTableau) (p : Pair Number) : Type 0 where
  pub term : Term
  pub shared : IsSharedAmong ts term
  pub value : IsValueOf s term p

-- so is each of these
abbrev pub AreSharedValues : List Term → TermTableau → List (Pair Number) → Type 0
AreSharedValues ts s ps = (p : Pair Number) → Contains ps p → IsSharedValue ts s p

-- no term is shared among terms
abbrev pub ShareNothing : List Term → Type 0
ShareNothing ts = (u : Term) → IsSharedAmong ts u → ⊥

-- It is an equality of two different terms that are shared among terms.
pub record IsSharedEquality (ts : List Term) (u : Term) : Type 0 where
  -- one of them
  pub left : Term
  pub left_shared : IsSharedAmong ts left
  -- and the other
  pub right : Term
  pub right_shared : IsSharedAmong ts right
  pub different : left ≢ right
  -- it is made of these
  pub is : u ≡ pair Equal left right
