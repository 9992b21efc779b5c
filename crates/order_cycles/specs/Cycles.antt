-- What cycles of orders are.
use Rattle.std.specs.Prelude.{◌≡◌, ◌<◌, ◌-◌, ℕ, List, All, length, get_or}
use Rattle.std.specs.List.{AllAdjacentBelow}
use Rattle.order_cycles.specs.declared.order.Order.{Order}

-- these are places of orders
abbrev pub ArePlaces : List Order → List ℕ → Type 0
ArePlaces orders places = All (λ (k : ℕ). k < length orders) places

-- the upper point of one order is the lower point of another one, by their places
abbrev pub Joins : List Order → ℕ → ℕ → Type 0
Joins orders a b = (d : Order) → (get_or orders a d).upper ≡ (get_or orders b d).lower

-- Orders, by their places, are a cycle.
pub record IsCycle (orders : List Order) (places : List ℕ) : Type 0 where
  -- there are some
  pub some : 0 < length places
  pub there : ArePlaces orders places
  -- the upper point of each is the lower point of the next one
  pub joined : AllAdjacentBelow (Joins orders) places (length places)
  -- and that of the last one is the lower point of the first
  pub closed : Joins orders (get_or places (length places - 1) 0) (get_or places 0 0)
