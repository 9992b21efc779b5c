-- The operations by which a check can leave the bound on the parts of fractions.
use Rattle.std.specs.Prelude.{◌≡◌, ℕ, true, false, ◌⊎◌, List, ◌∷◌, ◌++◌, Err}
use Rattle.spec_numbers.specs.Bounds.{Overflow}
use Rattle.spec_tableaux.specs.Deltas.{delta_added, delta_subtracted, delta_scaled, delta_divided}
use Rattle.spec_tableaux.specs.Spaces.{Pair, space_difference}
use Rattle.spec_tableaux.specs.Rows.{Entry, Row, coefficient_of, row_of, is_basic, sum_of}
use Rattle.spec_tableaux.specs.SolvedForms.{IsNonbasic}
use Rattle.spec_tableaux.specs.Ranges.{is_within}
use Rattle.spec_tableaux.specs.LeastVariable.{State, RuleSays, exchange, goes_up, goal_of, distance}
use Rattle.spec_tableaux.specs.Numbers.{Number, numbers}
use Rattle.spec_tableaux.specs.CheckOverflows.{OverflowsExchange, OverflowsSum}
use Rattle.spec_tableaux.specs.Points.{deltas, delta_in, Ranges}

-- the coefficient of x in the row of b
abbrev pub coefficient_in : List (Row Number) → ℕ → ℕ → Number
coefficient_in rs b x = coefficient_of numbers x (row_of b rs).entries

-- y violates a bound
abbrev pub Violates : Ranges → State Number (Pair Number) → ℕ → Type 0
Violates ranges t y = is_within deltas ranges t.point y ≡ false

-- the bound to which y has to move
abbrev pub goal : Ranges → State Number (Pair Number) → ℕ → Pair Number
goal ranges t y = goal_of deltas (ranges y) (goes_up deltas ranges t y)

-- this bound space_difference the value of y
abbrev pub gap : Ranges → State Number (Pair Number) → ℕ → Pair Number
gap ranges t y = space_difference deltas (goal ranges t y) (t.point y)

-- The values where the nonbasic variable x is greater by d come to the overflow o.
pub data OverflowsMove (t : State Number (Pair Number)) (x : ℕ) (d : Pair Number) (o : Overflow) : Type 0 where
  -- the coefficient of x in the row of a basic variable, times d
  product : (b : ℕ) → is_basic b t.rows ≡ true
      → delta_scaled (coefficient_in t.rows b x).fraction (delta_in d) ≡ Err o → OverflowsMove t x d o
  -- the value of a basic variable, plus such a product
  sum_of_product : (b : ℕ) → is_basic b t.rows ≡ true
      → delta_added (delta_in (t.point b)) (delta_in (deltas.scale (coefficient_in t.rows b x) d)) ≡ Err o
      → OverflowsMove t x d o
  -- the value of x plus d
  sum : delta_added (delta_in (t.point x)) (delta_in d) ≡ Err o → OverflowsMove t x d o

-- A nonbasic variable x that is to move by d.
pub data HasToMove (ranges : Ranges) (t : State Number (Pair Number)) (x : ℕ) (d : Pair Number) : Type 0 where
  -- to the bound that it violates
  updates_nonbasic : IsNonbasic t.rows x → Violates ranges t x → d ≡ gap ranges t x → HasToMove ranges t x d
  -- in the exchange that the rule says, so that the variable that leaves, by its row, comes to the bound that it
  -- violates
  enters : (b : ℕ) → RuleSays deltas ranges t (exchange b x) → d ≡ distance deltas ranges t b x
      → HasToMove ranges t x d

-- A step of a check at a state comes to the overflow o.
pub data CheckOverflows (ranges : Ranges) (t : State Number (Pair Number)) (o : Overflow) : Type 0 where
  -- a bound that a variable violates, space_difference its value
  difference : (y : ℕ) → Violates ranges t y
      → delta_subtracted (delta_in (goal ranges t y)) (delta_in (t.point y)) ≡ Err o → CheckOverflows ranges t o
  -- in the exchange that the rule says: such a difference of the variable b that leaves, over the coefficient in its
  -- row of the variable x that enters
  quotient : (b x : ℕ) → RuleSays deltas ranges t (exchange b x)
      → delta_divided (delta_in (gap ranges t b)) (coefficient_in t.rows b x).fraction ≡ Err o
      → CheckOverflows ranges t o
  -- the values where a nonbasic variable moves
  move : (x : ℕ) (d : Pair Number) → HasToMove ranges t x d → OverflowsMove t x d o → CheckOverflows ranges t o
  -- the rows after the exchange that the rule says
  rows : (b x : ℕ) → RuleSays deltas ranges t (exchange b x) → OverflowsExchange t.rows b x o
      → CheckOverflows ranges t o

-- The sum of the entries gs at a point comes to the overflow o.
pub data OverflowsValue (v : ℕ → Pair Number) (gs : List (Entry Number)) (o : Overflow) : Type 0 where
  -- a coefficient times the value of its variable
  product : (before : List (Entry Number)) (g : Entry Number) (after : List (Entry Number)) → gs ≡ before ++ g ∷ after
      → delta_scaled g.coefficient.fraction (delta_in (v g.variable)) ≡ Err o → OverflowsValue v gs o
  -- the sum of the entries before one, plus such a product
  sum_of_product : (before : List (Entry Number)) (g : Entry Number) (after : List (Entry Number))
      → gs ≡ before ++ g ∷ after
      → delta_added (delta_in (sum_of deltas v before)) (delta_in (deltas.scale g.coefficient (v g.variable))) ≡ Err o
      → OverflowsValue v gs o

-- a new variable, which is the sum of the entries gs, comes to the overflow o: by its row, or by its value
abbrev pub OverflowsNew : State Number (Pair Number) → List (Entry Number) → Overflow → Type 0
OverflowsNew t gs o = OverflowsSum t.rows gs o ⊎ OverflowsValue t.point gs o
