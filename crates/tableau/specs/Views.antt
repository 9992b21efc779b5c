-- A tableau as contracts see it: how many variables, the rows as they were added, and the rows in solved form.
use Rattle.std.specs.Prelude.{◌≡◌, ◌↔◌, ◌<◌, ◌==◌, ℕ, suc, true, false, Option, Some, None, List, [], ◌∷◌, ◌++◌, cond}
use Rattle.std.specs.Prelude.{length, get_or, slice_index_or, Contains}
use Rattle.spec_numbers.specs.Bounds.{Overflow}
use Rattle.spec_tableaux.specs.Spaces.{as_space}
use Rattle.spec_tableaux.specs.Rows.{Entry, Row, coefficient_of, is_basic, exchanged, with_row, Solves}
use Rattle.spec_tableaux.specs.SolvedForms.{AllRowVariables, IsSolved}
use Rattle.spec_tableaux.specs.Numbers.{Number, numbers}
use Rattle.ratio128.specs.Meant.{overflow}
use Rattle.tableau.specs.declared.stops.RowStop.{RowStop}
use Rattle.tableau.specs.declared.stops.RowStop.TheVariants.{Wide, Memory}

-- The variables, by their number, and the rows.
pub record TableauView : Type 0 where
  -- how many variables there are; they are numbered from 0
  pub variables : ℕ
  -- the rows as they were added, each a new variable as a sum of others, oldest first
  pub listed : List (Row Number)
  -- the same rows, by their numbers from 0, in solved form for the basic variables of now
  pub rows : List (Row Number)

-- What holds of each tableau.
pub record IsTableau (t : TableauView) : Type 0 where
  -- the rows are in solved form
  pub solved : IsSolved numbers t.rows
  -- each basic variable is one of the variables
  pub basics_below : (b : ℕ) → is_basic b t.rows ≡ true → b < t.variables
  -- so is each variable of an entry
  pub entries_below : AllRowVariables (λ y. y < t.variables) t.rows
  -- the rows have the solutions of those that were added
  pub same : (v : ℕ → Number) → Solves (as_space numbers) v t.rows ↔ Solves (as_space numbers) v t.listed

-- the tableau without variables
abbrev pub empty : TableauView
empty = record { variables = 0; listed = []; rows = [] }

-- the tableau with one variable more, which is in no row
abbrev pub with_variable : TableauView → TableauView
with_variable t = record { variables = suc t.variables; listed = t.listed; rows = t.rows }

-- the tableau with a new variable, which is the sum of the entries es
abbrev pub with_sum : TableauView → List (Entry Number) → TableauView
with_sum t es = record {
  variables = suc t.variables;
  listed = t.listed ++ record { basic = t.variables; entries = es } ∷ [];
  rows = with_row numbers t.rows t.variables es;
}

-- the tableau after the exchange of the basic variable b and the nonbasic variable x
abbrev pub with_exchange : TableauView → ℕ → ℕ → TableauView
with_exchange t b x = record { variables = t.variables; listed = t.listed; rows = exchanged numbers b x t.rows }

-- what no place has
abbrev pub no_row : Row Number
no_row = record { basic = 0; entries = [] }

-- the row of a number, from 0
abbrev pub row_at : List (Row Number) → ℕ → Row Number
row_at rs k = get_or rs k no_row

-- the place, one further on
abbrev pub next_place : Option ℕ → Option ℕ
next_place None = None
next_place (Some k) = Some (suc k)

-- the number of the row in which y is basic, if there is one
abbrev pub place : ℕ → List (Row Number) → Option ℕ
place y [] = None
place y (r ∷ rs) = cond (r.basic == y) (Some 0) (next_place (place y rs))

-- Row numbers among which is each row with an entry of a variable.
pub record IsColumn (rs : List (Row Number)) (y : ℕ) (ks : List ℕ) : Type 0 where
  -- each row with an entry of the variable is there
  pub covers : (k : ℕ) → k < length rs → numbers.is_zero (coefficient_of numbers y (row_at rs k).entries) ≡ false
      → Contains ks k
  -- each number is one of a row
  pub within : (k : ℕ) → Contains ks k → k < length rs
  -- none is there twice
  pub once : (i j : ℕ) → i < length ks → j < length ks → slice_index_or ks i 0 ≡ slice_index_or ks j 0 → i ≡ j

-- where the stop is an overflow, p holds of it
abbrev pub OnRowOverflow : (Overflow → Type 0) → RowStop → Type 0
OnRowOverflow p (Wide w) = p (overflow w)
OnRowOverflow p Memory = Unit {0}
