-- What a tableau keeps besides its rows, and what its fields mean.
use Rattle.std.specs.Prelude.{◌≡◌, ◌≢◌, ◌<◌, ◌⊎◌, ℕ, Option, None, List, [], ◌∷◌, length, get_or, Contains, false}
use Rattle.spec_tableaux.specs.Rows.{Entry, Row, coefficient_of}
use Rattle.spec_tableaux.specs.SolvedForms.{AllVariables}
use Rattle.spec_tableaux.specs.Numbers.{Number, numbers}
use Rattle.tableau.specs.declared.table.Tableau.TheInside.{Inside}
use Rattle.tableau.specs.Entries.{rows_of}
use Rattle.tableau.specs.Pivots.{NewRow}
use Rattle.tableau.specs.Views.{TableauView, IsTableau, row_at, place}

-- the row numbers of a variable
abbrev pub column_at : List (List ℕ) → ℕ → List ℕ
column_at columns y = get_or columns y []

-- Each column has the numbers of the rows with an entry of its variable, and numbers of rows alone.
pub record AreColumns (rs : List (Row Number)) (columns : List (List ℕ)) : Type 0 where
  -- a row with an entry of the variable is there
  pub covers : (y k : ℕ) → k < length rs → numbers.is_zero (coefficient_of numbers y (row_at rs k).entries) ≡ false
      → Contains (column_at columns y) k
  -- each number is one of a row
  pub within : (y k : ℕ) → Contains (column_at columns y) k → k < length rs

-- Row numbers of which p holds came into columns, and none went.
pub record HasGrown (p : ℕ → Type 0) (old new : List (List ℕ)) : Type 0 where
  pub count : length new ≡ length old
  pub kept : (y k : ℕ) → Contains (column_at old y) k → Contains (column_at new y) k
  pub others : (y k : ℕ) → Contains (column_at new y) k → Contains (column_at old y) k ⊎ p k

-- a row number is in the column of each variable of its entries
abbrev pub IsNoted : List (List ℕ) → ℕ → List (Entry Number) → Type 0
IsNoted columns k es = AllVariables (λ y. Contains (column_at columns y) k) es

-- the same of each row, by its number
abbrev pub RowsAreNoted : List (List ℕ) → List (Row Number) → Type 0
RowsAreNoted columns rs = (k : ℕ) → k < length rs → IsNoted columns k (row_at rs k).entries

-- the same of each change
abbrev pub AreNoted : List (List ℕ) → List NewRow → Type 0
AreNoted columns [] = Unit {0}
AreNoted columns (c ∷ cs) = IsNoted columns c.number c.row.entries × AreNoted columns cs

-- the entries of each change are over the first n variables
abbrev pub AreOverColumns : ℕ → List NewRow → Type 0
AreOverColumns n [] = Unit {0}
AreOverColumns n (c ∷ cs) = AllVariables (λ y. y < n) c.row.entries × AreOverColumns n cs

-- A row number went out of columns, and no other one.
pub record Forgets (n : ℕ) (old new : List (List ℕ)) : Type 0 where
  pub count : length new ≡ length old
  pub kept : (y k : ℕ) → k ≢ n → Contains (column_at old y) k → Contains (column_at new y) k
  pub others : (y k : ℕ) → Contains (column_at new y) k → Contains (column_at old y) k × (k ≢ n)

-- for each variable the number of its row
abbrev pub ArePlaces : List (Row Number) → List (Option ℕ) → Type 0
ArePlaces rs places = (y : ℕ) → get_or places y None ≡ place y rs

-- what the fields mean
abbrev pub tableau_view : Inside → TableauView
tableau_view t = record {
  variables = length t.places.items;
  listed = rows_of t.listed.items;
  rows = rows_of t.rows.items;
}

-- What holds of the fields.
pub record TableauFits (t : Inside) : Type 0 where
  -- the rows are in solved form, over the variables, and have the solutions of those that were added
  pub rows : IsTableau (tableau_view t)
  -- each variable has its place
  pub places : ArePlaces (rows_of t.rows.items) t.places.items
  -- and its column
  pub count : length t.columns.items ≡ length t.places.items
  pub columns : AreColumns (rows_of t.rows.items) t.columns.items
