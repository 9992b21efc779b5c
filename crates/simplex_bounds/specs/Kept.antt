-- How the fields of bounds fit together, and what they mean.
use Rattle.std.specs.Prelude.{◌≡◌, ◌-◌, ◌<◌, ℕ, List, [], ◌∷◌, ◌++◌, length, map, get_or, All, vec_len, vec_capacity}
use Rattle.simplex_bounds.specs.declared.bounds.Bound.{Bound}
use Rattle.simplex_bounds.specs.declared.limits.VariableLimits.{VariableLimits}
use Rattle.simplex_bounds.specs.declared.held.HeldBound.{HeldBound}
use Rattle.simplex_bounds.specs.declared.held.Bounds.TheInside.{Inside}
use Rattle.simplex_bounds.specs.Held.{strongest, IsLeastCrossed, BoundsView}
use Rattle.simplex_bounds.specs.Limits.{unlimited, limits_in}

-- the bounds that entries hold
abbrev pub bounds_of : List HeldBound → List Bound
bounds_of es = map (λ (e : HeldBound). e.bound) es

-- The entry knows what its bound found after those before it, and what crosses after it.
pub record IsEntry (before : List Bound) (e : HeldBound) : Type 0 where
  -- the strongest bound of its side and variable before it
  pub found_by : e.found ≡ strongest e.bound.side e.bound.variable before
  -- the least variable whose bounds cross once it is held
  pub crossed_by : IsLeastCrossed (before ++ e.bound ∷ []) e.crossed

-- so is each entry, after those before it
abbrev pub AreEntries : List Bound → List HeldBound → Type 0
AreEntries before [] = Unit {0}
AreEntries before (e ∷ es) = IsEntry before e × AreEntries (before ++ e.bound ∷ []) es

-- what the fields mean
abbrev pub bounds_view : Inside → BoundsView
bounds_view b = record {
  variables = length b.limits.items;
  held = bounds_of b.entries.items;
  room = vec_capacity b.entries - vec_len b.entries;
}

-- VariableLimits and entries fit together.
pub record LimitsFit (limits : List VariableLimits) (entries : List HeldBound) : Type 0 where
  -- each bound is of a variable that is there
  pub there : All (λ (e : HeldBound). e.bound.variable < length limits) entries
  -- the limits are the strongest bounds, and of other variables there are none
  pub strongest_by : (y : ℕ) → get_or limits y unlimited ≡ limits_in (bounds_of entries) y
  -- the entries know what was before them
  pub entries_by : AreEntries [] entries

-- the fields fit together
abbrev pub BoundsFit : Inside → Type 0
BoundsFit b = LimitsFit b.limits.items b.entries.items
