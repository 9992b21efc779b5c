-- What simplex has made of the atoms of a check: what variables stand for, rows, and values.
-- Source: Dutertre and de Moura, A Fast Linear-Arithmetic Solver for DPLL(T), CAV 2006.
use Rattle.std.specs.Prelude.{◌≡◌, ℕ, List, [], ◌∷◌, ◌++◌, length, get_or, Option, Some, None}
use Rattle.spec_numbers.specs.Fractions.{Fraction}
use Rattle.spec_sorts.specs.Terms.{Term}
use Rattle.spec_tableaux.specs.Spaces.{Pair}
use Rattle.spec_tableaux.specs.Rows.{Entry, Row, sum_of, with_row}
use Rattle.spec_tableaux.specs.Numbers.{Number, numbers}
use Rattle.spec_tableaux.specs.Points.{deltas, point_in, AssignmentState, state_at}

-- Variables are numbered from 0. Each means a term, or for a row.
pub record TermTableau : Type 0 where
  -- for each variable the term that it stands for; that of a row stands for none
  pub owners : List (Option Term)
  -- the rows as they came, each a new variable as a sum of others, oldest first
  pub listed : List (Row Number)
  -- the same rows, in solved form for the basic variables of now
  pub rows : List (Row Number)
  -- the value of each variable
  pub values : List (Pair Number)

-- before there is an atom
abbrev pub nothing_yet : TermTableau
nothing_yet = record { owners = []; listed = []; rows = []; values = [] }

-- the rows in solved form, and the values
abbrev pub state_in : TermTableau → AssignmentState
state_in s = state_at s.rows s.values

-- the term that a variable stands for, if it stands for one
abbrev pub owner_in : List (Option Term) → ℕ → Option Term
owner_in owners y = get_or owners y None

-- a new variable means a term; its value is 0
abbrev pub with_slack : TermTableau → Term → TermTableau
with_slack s u = record {
  owners = s.owners ++ Some u ∷ [];
  listed = s.listed;
  rows = s.rows;
  values = s.values ++ deltas.origin ∷ [];
}

-- a new variable stands for a row, the sum of the entries gs, and so does its value
abbrev pub with_sum : TermTableau → List (Entry Number) → TermTableau
with_sum s gs = record {
  owners = s.owners ++ None ∷ [];
  listed = s.listed ++ record { basic = length s.owners; entries = gs } ∷ [];
  rows = with_row numbers s.rows (length s.owners) gs;
  values = s.values ++ sum_of deltas (point_in s.values) gs ∷ [];
}

-- the rows are solved for other variables, and values changed
abbrev pub moved_to : TermTableau → List (Row Number) → List (Pair Number) → TermTableau
moved_to s rs vs = record { owners = s.owners; listed = s.listed; rows = rs; values = vs }

-- values of variables are those of the terms that they stand for
abbrev pub AreOwned : {V : Type 0} → List (Option Term) → (Term → V) → (ℕ → V) → Type 0
AreOwned owners n v = (y : ℕ) (u : Term) → owner_in owners y ≡ Some u → v y ≡ n u

-- An entry is that of the variable of a form: its variable stands for this term, with this coefficient.
pub record IsEntryOf (owners : List (Option Term)) (e : Entry Number) (x : Term × Fraction) : Type 0 where
  pub owner : owner_in owners e.variable ≡ Some x.0
  pub coefficient : e.coefficient.fraction ≡ x.1

-- the entries are those of a form's variables, in order
abbrev pub AreEntriesOf : List (Option Term) → List (Entry Number) → List (Term × Fraction) → Type 0
AreEntriesOf owners [] [] = Unit {0}
AreEntriesOf owners (e ∷ es) (x ∷ xs) = IsEntryOf owners e x × AreEntriesOf owners es xs
AreEntriesOf owners _ _ = ⊥
