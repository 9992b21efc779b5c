-- Variables that may violate a bound.
use Rattle.std.specs.Prelude.{◌≡◌, ◌≤◌, ◌<◌, ℕ, Bool, true, false, ◌==◌, ◌||◌, ◌⊎◌, List, [], ◌∷◌, length, take, get_or}
use Rattle.std.specs.Prelude.{Contains}
use Rattle.spec_tableaux.specs.Spaces.{Pair}
use Rattle.spec_tableaux.specs.Numbers.{Number}
use Rattle.spec_tableaux.specs.Ranges.{value_in_range}
use Rattle.spec_tableaux.specs.LeastVariable.{is_out}
use Rattle.spec_tableaux.specs.SolvedForms.{IsNonbasic}
use Rattle.spec_tableaux.specs.Points.{deltas, point_in, Ranges, AssignmentState}
use Rattle.simplex_bounds.specs.Held.{RespectsBound}
use Rattle.simplex_bounds.specs.declared.bounds.Bound.{Bound}
use Rattle.simplex_check.specs.declared.rule.Move.{Move}
use Rattle.simplex_check.specs.declared.rule.Move.TheVariants.{Exchange}

-- y is one of the numbers
abbrev pub is_among : ℕ → List ℕ → Bool
is_among y [] = false
is_among y (z ∷ zs) = (z == y) || is_among y zs

-- each basic variable that violates a bound is one of them
abbrev pub Suspect : Ranges → AssignmentState → List ℕ → Type 0
Suspect ranges t ys = (y : ℕ) → is_out deltas ranges t y ≡ true → is_among y ys ≡ true

-- the same but for the variable b
abbrev pub SuspectBut : Ranges → AssignmentState → ℕ → List ℕ → Type 0
SuspectBut ranges t b ys = (y : ℕ) → is_out deltas ranges t y ≡ true → (is_among y ys ≡ true) ⊎ (y ≡ b)

-- the same but for the variable that leaves, if there is one
abbrev pub SuspectAfter : Ranges → AssignmentState → Move → List ℕ → Type 0
SuspectAfter ranges t (Exchange b x) ys = SuspectBut ranges t b ys
SuspectAfter ranges t _ ys = Unit {0}

-- Where values became others, the variables whose value changed are suspects, besides those that were.
pub record HaveSuspects (before after : List (Pair Number)) (old new : List ℕ) : Type 0 where
  -- those that were
  pub kept : (z : ℕ) → is_among z old ≡ true → is_among z new ≡ true
  -- what is none of them has its value
  pub noted : (z : ℕ) → (is_among z new ≡ true) ⊎ (point_in after z ≡ point_in before z)

-- A variable is looked at: where it is nonbasic it goes to the bound that it violates, and the others stay. What is
-- basic and violates
-- a bound then is a suspect, or did so before and is not this one.
pub record LooksAt (ranges : Ranges) (y : ℕ) (t u : AssignmentState) (old new : List ℕ) : Type 0 where
  pub nonbasic_updated : IsNonbasic t.rows y → u.point y ≡ value_in_range deltas (ranges y) (t.point y)
  pub others : (z : ℕ) → IsNonbasic t.rows z → (z == y) ≡ false → u.point z ≡ t.point z
  pub kept : (z : ℕ) → is_among z old ≡ true → is_among z new ≡ true
  pub noted : (z : ℕ) → is_out deltas ranges u z ≡ true → (is_among z new ≡ true)
      ⊎ ((is_out deltas ranges t z ≡ true) × ((z == y) ≡ false))

-- Values keep the first n bounds that are held.
pub record KeepsFirst (n : ℕ) (held : List Bound) (vs : List (Pair Number)) : Type 0 where
  -- there are as many
  pub few : n ≤ length held
  -- they keep each of them
  pub each : (b : Bound) → Contains (take n held) b → RespectsBound (point_in vs) b

-- the variable of each bound from a place on is one of the numbers
abbrev pub AreDue : ℕ → List Bound → List ℕ → Type 0
AreDue from held ys = (k : ℕ) → from ≤ k → k < length held → (none : Bound) → is_among (get_or held k none).variable ys
    ≡ true
