-- Rows of variables, each of which knows its place.
use Rattle.std.specs.Prelude.{◌≡◌, ◌<◌, ℕ, List, [], Bool, length, get_or}
use Rattle.term_core.specs.declared.ids.TermId.{TermId}
use Rattle.variable_order.specs.Orders.{IsIn}

-- Variables in a row.
pub record RowView : Type 0 where
  -- those that are there
  pub row : List TermId
  -- for each variable whether it is there
  pub members : List Bool

-- what no place has
abbrev pub no_variable : TermId
no_variable = record { 0 = 0 }

-- the row of no variables
abbrev pub nowhere : RowView
nowhere = record { row = []; members = [] }

-- The variable is at a place of the row.
pub record IsAt (r : RowView) (v : TermId) (place : ℕ) : Type 0 where
  -- it is in the row
  pub is_in : IsIn r.members v
  -- the place is one of the row's
  pub within : place < length r.row
  -- and is the variable's
  pub is : get_or r.row place no_variable ≡ v
