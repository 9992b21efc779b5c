-- How the fields of a trail fit together, and what they mean.
use Rattle.std.specs.Prelude.{◌≡◌, ◌<◌, ◌≤◌, ℕ, List, length, map, get_or, Option, None, vec_capacity}
use Rattle.term_core.specs.declared.ids.Lit.{Lit}
use Rattle.sat_trail.specs.Trails.{TrailView}
use Rattle.sat_trail.specs.Values.{HasValues}
use Rattle.sat_trail.specs.declared.trail.SatTrail.TheInside.{Inside}

-- of each literal what is by its variable
abbrev pub by_variable : {X : Type 0} → List X → X → List Lit → List X
by_variable xs d held = map (λ (l : Lit). get_or xs l.term.0 d) held

-- what the fields mean
abbrev pub trail_view : Inside → TrailView
trail_view t = record {
  literals = t.literals.items;
  levels = by_variable t.levels.items 0 t.literals.items;
  reasons = by_variable t.reasons.items None t.literals.items;
  vars = length t.values.items;
  level = length t.starts.items;
  propagated = t.propagated;
}

-- The levels start at rising places, each at a literal.
pub record AreStarts (starts : List ℕ) (n : ℕ) : Type 0 where
  -- each place is a literal's
  pub within : (k : ℕ) → k < length starts → get_or starts k 0 < n
  -- they rise
  pub rising : (i j : ℕ) → i < j → j < length starts → get_or starts i 0 < get_or starts j 0
  -- so there are no more of them than literals
  pub many : (k : ℕ) → k < length starts → k ≤ get_or starts k 0

-- A literal's level is the number of levels that start at its place or before, and they start where there is no reason.
pub record AreLevels (starts levels : List ℕ) (reasons : List (Option ℕ)) : Type 0 where
  -- no literal is above the last level
  pub topped : (p : ℕ) → p < length levels → get_or levels p 0 ≤ length starts
  -- from a start on literals are above the level before
  pub above : (k p : ℕ) → k < length starts → get_or starts k 0 ≤ p → p < length levels → k < get_or levels p 0
  -- before a start they are not
  pub below : (k p : ℕ) → k < length starts → p < get_or starts k 0 → get_or levels p 0 ≤ k
  -- where a level starts there is no reason
  pub decided : (k : ℕ) → k < length starts → get_or reasons (get_or starts k 0) None ≡ None
  -- and nowhere else
  pub only : (p : ℕ) → p < length reasons → get_or reasons p None ≡ None → (k : ℕ) × (k < length starts)
      × (get_or starts k 0 ≡ p)

-- The fields fit, and there is room for one literal and one level of each variable.
pub record TrailFits (t : Inside) : Type 0 where
  -- values are those of the literals
  pub values_by : HasValues t.literals.items t.values.items
  -- levels and reasons are there for each variable
  pub levels_by : length t.levels.items ≡ length t.values.items
  pub reasons_by : length t.reasons.items ≡ length t.values.items
  -- each variable has room for its literal
  pub literal_room : length t.values.items ≤ vec_capacity t.literals
  -- and for a level
  pub level_room : length t.values.items ≤ vec_capacity t.starts
  -- the levels start at literals
  pub starts_by : AreStarts t.starts.items (length t.literals.items)
  -- and the levels are as these say
  pub leveled : AreLevels t.starts.items (by_variable t.levels.items 0 t.literals.items)
      (by_variable t.reasons.items None t.literals.items)
  -- no more are marked than there are
  pub marked : t.propagated ≤ length t.literals.items
