-- Bounds that are held, and the strongest of them.
use Rattle.std.specs.Prelude.{◌≡◌, ℕ, Bool, true, false, ◌&&◌, ◌==◌, nat_lt, cond, List, [], ◌∷◌, Option, Some, None}
use Rattle.spec_tableaux.specs.Spaces.{Pair}
use Rattle.spec_tableaux.specs.Numbers.{Number}
use Rattle.spec_tableaux.specs.Ranges.{Range, is_crossed}
use Rattle.spec_tableaux.specs.LeastVariable.{IsLeast}
use Rattle.simplex_bounds.specs.declared.bounds.Bound.{Bound}
use Rattle.simplex_bounds.specs.declared.bounds.Side.{Side}
use Rattle.simplex_bounds.specs.declared.bounds.Side.TheVariants.{Lower, Upper}
use Rattle.simplex_bounds.specs.Deltas.{pair_of}
use Rattle.spec_tableaux.specs.Points.{deltas}

-- the sides are one
abbrev pub same_side : Side → Side → Bool
same_side Lower Lower = true
same_side Upper Upper = true
same_side _ _ = false

-- the bound is one of a side and a variable
abbrev pub is_of : Side → ℕ → Bound → Bool
is_of side y b = same_side side b.side && (b.variable == y)

-- x is tighter than y, as bounds of a side: a bound at x excludes y
abbrev pub is_tighter : Side → Pair Number → Pair Number → Bool
is_tighter Lower x y = deltas.less y x
is_tighter Upper x y = deltas.less x y

-- the stronger of a bound that was found and a later one of its side; of equally strong ones the one that was found
abbrev pub stronger : Option Bound → Bound → Option Bound
stronger None b = Some b
stronger (Some a) b = Some (cond (is_tighter b.side (pair_of b.value) (pair_of a.value)) b a)

-- the strongest of what was found and of those of a side and a variable, from the oldest on
abbrev pub strongest_after : Option Bound → Side → ℕ → List Bound → Option Bound
strongest_after found side y [] = found
strongest_after found side y (b ∷ bs) = strongest_after (cond (is_of side y b) (stronger found b) found) side y bs

-- the strongest of those of a side and a variable; of equally strong ones the oldest
abbrev pub strongest : Side → ℕ → List Bound → Option Bound
strongest side y held = strongest_after None side y held

-- the values v keep a bound: it does not exclude that of its variable
abbrev pub RespectsBound : (ℕ → Pair Number) → Bound → Type 0
RespectsBound v b = is_tighter b.side (pair_of b.value) (v b.variable) ≡ false

-- the value of a bound, where there is one
abbrev pub value_in : Option Bound → Option (Pair Number)
value_in None = None
value_in (Some b) = Some (pair_of b.value)

-- the range that the bounds leave to a variable
abbrev pub range_in : List Bound → ℕ → Range (Pair Number)
range_in held y = record { lower = value_in (strongest Lower y held); upper = value_in (strongest Upper y held) }

-- the range that they leave to each variable
abbrev pub ranges_in : List Bound → ℕ → Range (Pair Number)
ranges_in held = λ y. range_in held y

-- the variable is the least whose bounds cross, or those of none do
abbrev pub IsLeastCrossed : List Bound → Option ℕ → Type 0
IsLeastCrossed held None = (y : ℕ) → is_crossed deltas (ranges_in held) y ≡ false
IsLeastCrossed held (Some y) = IsLeast (is_crossed deltas (ranges_in held)) y

-- the lesser of a variable, where there is one, and another
abbrev pub lesser : Option ℕ → ℕ → ℕ
lesser None y = y
lesser (Some x) y = cond (nat_lt x y) x y

-- Bounds as contracts see them.
pub record BoundsView : Type 0 where
  -- how many variables there are: the numbers below
  pub variables : ℕ
  -- the bounds that are held, oldest first
  pub held : List Bound
  -- how many more can be held without memory
  pub room : ℕ
