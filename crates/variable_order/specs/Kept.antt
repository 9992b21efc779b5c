-- How the fields of a row fit together, and what they mean.
use Rattle.std.specs.Prelude.{◌≡◌, ◌<◌, ◌≤◌, ℕ, List, length, map, get_or, Option, Some, None, vec_capacity}
use Rattle.std.specs.Option.{is_some}
use Rattle.term_core.specs.declared.ids.TermId.{TermId}
use Rattle.variable_order.specs.Rows.{RowView, no_variable}
use Rattle.variable_order.specs.declared.places.Places.TheInside.{Inside}

-- what the fields mean
abbrev pub order_view : Inside → RowView
order_view p = record { row = p.row.items; members = map is_some p.places.items }

-- The places are those of the variables in the row.
pub record ArePlaces (row : List TermId) (places : List (Option ℕ)) : Type 0 where
  -- each variable of the row knows its place
  pub there : (k : ℕ) → k < length row → get_or places (get_or row k no_variable).0 None ≡ Some k
  -- and each place is that of a variable of the row
  pub only : (v k : ℕ) → get_or places v None ≡ Some k → (k < length row) × ((get_or row k no_variable).0 ≡ v)

-- The fields fit, and there is room for each variable.
pub record OrderFits (p : Inside) : Type 0 where
  -- the places are those of the row
  pub placed : ArePlaces p.row.items p.places.items
  -- each variable has room in the row
  pub room : length p.places.items ≤ vec_capacity p.row
