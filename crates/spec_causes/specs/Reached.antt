-- What simplex comes to over terms: variables and rows for the forms of their atoms, and checks by the least-variable
-- rule.
-- Source: Dutertre and de Moura, CAV 2006; Bland, New finite pivoting rules for the simplex method, 1977.
use Rattle.std.specs.Prelude.{◌≡◌, ℕ, suc, true, false, List, [], ◌∷◌, length, Some, Ok, Contains}
use Rattle.spec_numbers.specs.Fractions.{Fraction}
use Rattle.spec_sorts.specs.Terms.{Term}
use Rattle.spec_arithmetic.specs.Forms.{Form}
use Rattle.spec_tableaux.specs.Spaces.{Pair}
use Rattle.spec_tableaux.specs.Rows.{Entry, Row}
use Rattle.spec_tableaux.specs.Numbers.{Number, numbers}
use Rattle.spec_tableaux.specs.Points.{Ranges}
use Rattle.spec_tableaux.specs.Runs.{UpdatesBelow, Ran, RanShort}
use Rattle.spec_simplex.specs.Constraints.{Constraint, constraint_of, form_of}
use Rattle.spec_causes.specs.TermTableau.{TermTableau, nothing_yet, owner_in, with_slack, with_sum, moved_to, state_in}
use Rattle.spec_causes.specs.TermTableau.{AreEntriesOf}
use Rattle.spec_causes.specs.Bounds.{AreBounds}

-- The form is that of an atom among terms.
pub record IsFormAmong (ts : List Term) (f : Form) : Type 0 where
  -- the atom
  pub atom : Term
  pub there : Contains ts atom
  -- what it says
  pub constraint : Constraint
  pub says : constraint_of (record { atom = atom; positive = true }) ≡ Some constraint
  pub has : form_of constraint ≡ Ok f

-- the entries are not one alone, whose variable their sum would be a multiple of; there may be none
abbrev pub IsLonger : List (Entry Number) → Type 0
IsLonger gs = (g : Entry Number) → gs ≡ g ∷ [] → numbers.is_zero g.coefficient ≡ false → ⊥

-- no row came for the sum of the entries
abbrev pub HaveNoRow : List (Row Number) → List (Entry Number) → Type 0
HaveNoRow listed gs = (r : Row Number) → Contains listed r → r.entries ≡ gs → ⊥

-- Simplex comes to this over terms, where these exchanges were made in all its checks of bounds together, oldest first,
-- each a leaving and
-- an entering variable. Those of one check are a run, and there are no more runs than so many: an empty one may be
-- counted or not.
pub data IsReached (ts : List Term) : ℕ → List (ℕ × ℕ) → TermTableau → Type 0 where
  -- it begins with nothing
  beginning : IsReached ts 0 [] nothing_yet
  -- a variable comes for a term of an atom's form that has none yet
  naming : (n : ℕ) (es : List (ℕ × ℕ)) (s : TermTableau) → IsReached ts n es s
      → (f : Form) → IsFormAmong ts f → (u : Term) (k : Fraction) → Contains f.variables (u, k)
      → ((y : ℕ) → owner_in s.owners y ≡ Some u → ⊥) → IsReached ts n es (with_slack s u)
  -- a row comes for the variables of an atom's form that is no multiple of one, where their sum has none yet
  summing : (n : ℕ) (es : List (ℕ × ℕ)) (s : TermTableau) → IsReached ts n es s
      → (f : Form) → IsFormAmong ts f → (gs : List (Entry Number)) → AreEntriesOf s.owners gs f.variables
      → IsLonger gs → HaveNoRow s.listed gs → IsReached ts n es (with_sum s gs)
  -- a check goes to these bounds, and makes no exchange: no run is counted
  idling : (n : ℕ) (es : List (ℕ × ℕ)) (s : TermTableau) → IsReached ts n es s
      → (ranges : Ranges) → AreBounds ts s ranges → (rs : List (Row Number)) (vs : List (Pair Number))
      → length vs ≡ length s.values → Ran ranges (state_in s) (state_in (moved_to s rs vs)) es es
      → IsReached ts n es (moved_to s rs vs)
  -- a check goes to these bounds, and then makes a run of exchanges, as the rule says: one is counted
  checking : (n : ℕ) (old new : List (ℕ × ℕ)) (s : TermTableau) → IsReached ts n old s
      → (ranges : Ranges) → AreBounds ts s ranges → (rs : List (Row Number)) (vs : List (Pair Number))
      → length vs ≡ length s.values → Ran ranges (state_in s) (state_in (moved_to s rs vs)) old new
      → IsReached ts (suc n) new (moved_to s rs vs)

-- It is stopped there: with all its exchanges made, or in a step of a check.
pub data IsStoppedAt (ts : List Term) : ℕ → List (ℕ × ℕ) → TermTableau → Type 0 where
  -- with all its exchanges made
  between : (n : ℕ) (es : List (ℕ × ℕ)) (s : TermTableau) → IsReached ts n es s → IsStoppedAt ts n es s
  -- in a check, on its way to the bounds that nonbasic variables violate
  updating_nonbasic : (n : ℕ) (es : List (ℕ × ℕ)) (s : TermTableau) → IsReached ts n es s
      → (ranges : Ranges) → AreBounds ts s ranges → (m : ℕ) (rs : List (Row Number)) (vs : List (Pair Number))
      → length vs ≡ length s.values → UpdatesBelow ranges m (state_in s) (state_in (moved_to s rs vs))
      → IsStoppedAt ts n es (moved_to s rs vs)
  -- in a check, where the rule says a further exchange, which is kept before it is made
  exchanging : (n : ℕ) (old new : List (ℕ × ℕ)) (s : TermTableau) → IsReached ts n old s
      → (ranges : Ranges) → AreBounds ts s ranges → (rs : List (Row Number)) (vs : List (Pair Number))
      → length vs ≡ length s.values → RanShort ranges (state_in s) (state_in (moved_to s rs vs)) old new
      → IsStoppedAt ts (suc n) new (moved_to s rs vs)
