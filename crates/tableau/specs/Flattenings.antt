-- Overflows of one step of a sum in which basic variables are replaced by their rows.
use Rattle.std.specs.Prelude.{◌≡◌, true, false, List}
use Rattle.spec_numbers.specs.Bounds.{Overflow}
use Rattle.spec_tableaux.specs.Rows.{Entry, Row, row_of, is_basic}
use Rattle.spec_tableaux.specs.Numbers.{Number}
use Rattle.tableau.specs.Sums.{OverflowsCombined, OverflowsPut}

-- The entry g is added to the sum es, the variable by its row where it is basic, and that comes to the overflow o.
pub data OverflowsOne (rs : List (Row Number)) (es : List (Entry Number)) (g : Entry Number)
    (o : Overflow) : Type 0 where
  -- it is basic
  in_row : is_basic g.variable rs ≡ true → OverflowsCombined false es g.coefficient (row_of g.variable rs).entries o
      → OverflowsOne rs es g o
  -- it is nonbasic
  in_put : is_basic g.variable rs ≡ false → OverflowsPut es g.variable g.coefficient o → OverflowsOne rs es g o
