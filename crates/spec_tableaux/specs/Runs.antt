-- What a feasibility check does to rows and values, and where it stops.
-- Source: Bland, New finite pivoting rules for the simplex method, 1977; Dutertre and de Moura, CAV 2006.
use Rattle.std.specs.Prelude.{◌≡◌, ℕ, ◌<◌, ◌≤◌, List, [], ◌∷◌, ◌++◌}
use Rattle.spec_tableaux.specs.Rows.{Solves}
use Rattle.spec_tableaux.specs.SolvedForms.{IsNonbasic}
use Rattle.spec_tableaux.specs.Ranges.{value_in_range}
use Rattle.spec_tableaux.specs.LeastVariable.{RuleSays, MakesPivots, UpdatesNonbasic, exchange}
use Rattle.spec_tableaux.specs.States.{RepeatsNoState}
use Rattle.spec_tableaux.specs.Points.{deltas, Ranges, AssignmentState}

-- Of the nonbasic variables those below n that violated a bound went to it, and the others are as they were.
pub record UpdatesBelow (ranges : Ranges) (n : ℕ) (t u : AssignmentState) : Type 0 where
  pub rows : u.rows ≡ t.rows
  pub solves : Solves deltas u.point u.rows
  pub nonbasic_updated : (y : ℕ) → y < n → IsNonbasic t.rows y → u.point y
      ≡ value_in_range deltas (ranges y) (t.point y)
  pub others : (y : ℕ) → n ≤ y → IsNonbasic t.rows y → u.point y ≡ t.point y

-- Nonbasic variables went to the bounds that they violated, and then each exchange that was kept was made, as the
-- rule says.
pub record Ran (ranges : Ranges) (t u : AssignmentState) (old new : List (ℕ × ℕ)) : Type 0 where
  -- the state before the exchanges
  pub start : AssignmentState
  pub updates_nonbasic : UpdatesNonbasic deltas ranges t start
  -- the exchanges of this check
  pub made : List (ℕ × ℕ)
  pub kept : new ≡ old ++ made
  pub makes : MakesPivots deltas ranges start made u

-- The same, but the last exchange that was kept, which the rule says, was not made.
pub record RanShort (ranges : Ranges) (t u : AssignmentState) (old new : List (ℕ × ℕ)) : Type 0 where
  -- what was kept before the last one
  pub before : List (ℕ × ℕ)
  pub last : ℕ × ℕ
  pub kept : new ≡ before ++ last ∷ []
  pub ran : Ran ranges t u old before
  pub next : RuleSays deltas ranges u (exchange last.0 last.1)

-- Where a check stops in the middle of a step.
pub data Stopped (ranges : Ranges) (t u : AssignmentState) (old new : List (ℕ × ℕ)) : Type 0 where
  -- before the exchanges, on the way to the bounds that nonbasic variables violated
  updating_nonbasic : (n : ℕ) → UpdatesBelow ranges n t u → new ≡ old → Stopped ranges t u old new
  -- in an exchange
  exchanging : RanShort ranges t u old new → Stopped ranges t u old new

-- a check from t on, which kept exchanges after the old ones, comes to no state twice by them
abbrev pub CheckRepeatsNoState : Ranges → AssignmentState → (old new : List (ℕ × ℕ)) → Type 0
CheckRepeatsNoState ranges t old new =
    (start : AssignmentState) (made : List (ℕ × ℕ)) → UpdatesNonbasic deltas ranges t start → new ≡ old ++ made
    → RepeatsNoState deltas ranges start made
