-- The operations by which an pivot of two variables, or a row more, can leave the bound on the parts of fractions.
use Rattle.std.specs.Prelude.{◌≡◌, ℕ, true, false, ◌==◌, List, [], ◌∷◌, ◌++◌, Contains, Result, Err}
use Rattle.spec_numbers.specs.Fractions.{Fraction}
use Rattle.spec_numbers.specs.Bounds.{Overflow, added, subtracted, multiplied, divided}
use Rattle.spec_tableaux.specs.Rows.{Entry, Row, Pivot, coefficient_of, row_of, is_basic, pivot_of, without, flattened}
use Rattle.spec_tableaux.specs.Numbers.{Number, numbers}

-- the operation on two numbers comes to the overflow o
abbrev pub Overflows : (Fraction → Fraction → Result Fraction Overflow) → Number → Number → Overflow → Type 0
Overflows operation left right o = operation left.fraction right.fraction ≡ Err o

-- r is one of the rows, and not that of the basic variable b
abbrev pub IsOther : List (Row Number) → ℕ → Row Number → Type 0
IsOther rs b r = Contains rs r × ((r.basic == b) ≡ false)

-- the row of b, solved for x
abbrev pub pivot_in : List (Row Number) → ℕ → ℕ → Pivot Number
pivot_in rs b x = pivot_of numbers b x (row_of b rs).entries

-- An exchange of the basic variable b and the nonbasic variable x comes to the overflow o.
pub data OverflowsExchange (rs : List (Row Number)) (b x : ℕ) (o : Overflow) : Type 0 where
  -- one over the coefficient of x in the row of b
  factor : Overflows divided numbers.one (coefficient_of numbers x (row_of b rs).entries) o → OverflowsExchange rs b x o
  -- another coefficient of this row, over that of x
  quotient : (e : Entry Number) → Contains (without x (row_of b rs).entries) e
      → Overflows divided e.coefficient (coefficient_of numbers x (row_of b rs).entries) o → OverflowsExchange rs b x o
  -- the coefficient of x in another row, times one over that in the row of b
  leaving_product : (r : Row Number) → IsOther rs b r
      → Overflows multiplied (coefficient_of numbers x r.entries) (pivot_in rs b x).factor o
      → OverflowsExchange rs b x o
  -- the coefficient of x in another row, times a quotient g
  product : (r : Row Number) → IsOther rs b r → (g : Entry Number) → Contains (pivot_in rs b x).others g
      → Overflows multiplied (coefficient_of numbers x r.entries) g.coefficient o → OverflowsExchange rs b x o
  -- a coefficient of another row minus such a product for the same variable
  difference : (r : Row Number) → IsOther rs b r → (g : Entry Number) → Contains (pivot_in rs b x).others g
      → (e : Entry Number) → Contains r.entries e → e.variable ≡ g.variable
      → Overflows subtracted e.coefficient (numbers.times (coefficient_of numbers x r.entries) g.coefficient) o
      → OverflowsExchange rs b x o

-- A row more, of the sum of gs, comes to the overflow o. Before g the sum is that of the entries before it, with basic
-- variables replaced by their rows.
pub data OverflowsSum (rs : List (Row Number)) (gs : List (Entry Number)) (o : Overflow) : Type 0 where
  -- the coefficient of a basic variable, times a coefficient of its row
  product_of_row : (before : List (Entry Number)) (g : Entry Number) (after : List (Entry Number))
      → gs ≡ before ++ g ∷ after
      → is_basic g.variable rs ≡ true → (c : Entry Number) → Contains (row_of g.variable rs).entries c
      → Overflows multiplied g.coefficient c.coefficient o → OverflowsSum rs gs o
  -- a coefficient of the sum plus such a product for the same variable
  sum_of_row : (before : List (Entry Number)) (g : Entry Number) (after : List (Entry Number))
      → gs ≡ before ++ g ∷ after
      → is_basic g.variable rs ≡ true → (c : Entry Number) → Contains (row_of g.variable rs).entries c
      → (e : Entry Number) → Contains (flattened numbers rs [] before) e → e.variable ≡ c.variable
      → Overflows added e.coefficient (numbers.times g.coefficient c.coefficient) o → OverflowsSum rs gs o
  -- a coefficient of the sum plus that of the same nonbasic variable
  sum_of_two : (before : List (Entry Number)) (g : Entry Number) (after : List (Entry Number))
      → gs ≡ before ++ g ∷ after
      → is_basic g.variable rs ≡ false → (e : Entry Number) → Contains (flattened numbers rs [] before) e
      → e.variable ≡ g.variable → Overflows added e.coefficient g.coefficient o → OverflowsSum rs gs o
