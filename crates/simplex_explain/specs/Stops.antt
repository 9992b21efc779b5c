-- The bounds that stop the variables of a sum.
use Rattle.std.specs.Prelude.{◌≡◌, ℕ, Bool, false, not, cond, List, [], ◌∷◌, Option, Some, None, All, Contains}
use Rattle.spec_tableaux.specs.Fields.{is_positive}
use Rattle.spec_tableaux.specs.Spaces.{Pair, space_difference}
use Rattle.spec_tableaux.specs.Rows.{Entry}
use Rattle.spec_tableaux.specs.Numbers.{Number, numbers}
use Rattle.spec_causes.specs.Reasons.{directed}
use Rattle.term_core.specs.declared.ids.TermId.{TermId}
use Rattle.tableau.specs.Numbers.{number_of}
use Rattle.simplex_bounds.specs.declared.bounds.Bound.{Bound}
use Rattle.simplex_bounds.specs.declared.bounds.Side.{Side}
use Rattle.simplex_bounds.specs.Deltas.{pair_of}
use Rattle.spec_tableaux.specs.Points.{deltas}
use Rattle.simplex_bounds.specs.Held.{strongest}
use Rattle.simplex_atoms.specs.declared.slack.Slack.{Slack}
use Rattle.simplex_atoms.specs.Slacks.{slack_in}
use Rattle.simplex_atoms.specs.Limits.{side_by, limit_of, limits_by}

-- A bound is one of those that its literal states.
pub record IsStatedBound (slack_list : List (ℕ × Slack)) (b : Bound) : Type 0 where
  -- the place of the literal's atom
  pub slack : Slack
  pub there : slack_in slack_list b.literal.term ≡ Some slack
  pub states : Contains (limits_by slack b.literal) (limit_of b)

-- each of the bounds is stated by its literal
abbrev pub AreStated : List (ℕ × Slack) → List Bound → Type 0
AreStated slack_list held = All (IsStatedBound slack_list) held

-- the factor of each place is not 0
abbrev pub HaveFactors : List (ℕ × Slack) → Type 0
HaveFactors slack_list = (id : TermId) (slack : Slack) → slack_in slack_list id ≡ Some slack
    → numbers.is_zero (number_of slack.factor) ≡ false

-- the side on which a variable with the coefficient c is stopped where a sum is to rise, or to fall where up is false
abbrev pub stopping_side : Bool → Number → Side
stopping_side up c = side_by (cond (is_positive numbers c) up (not up))

-- the bound that stops the variable of an entry, where there is one
abbrev pub stop_of : List Bound → Bool → Entry Number → Option Bound
stop_of held up e = strongest (stopping_side up e.coefficient) e.variable held

-- A bound stops the variable of an entry, whose coefficient is not 0.
pub record IsStopped (held : List Bound) (up : Bool) (e : Entry Number) : Type 0 where
  pub entry : numbers.is_zero e.coefficient ≡ false
  -- the bound
  pub bound : Bound
  pub is : stop_of held up e ≡ Some bound

-- the variable of each entry is stopped
abbrev pub AreAllStopped : List Bound → Bool → List (Entry Number) → Type 0
AreAllStopped held up [] = Unit {0}
AreAllStopped held up (e ∷ es) = IsStopped held up e × AreAllStopped held up es

-- the value of a bound, 0 where there is none
abbrev pub value_of : Option Bound → Pair Number
value_of None = deltas.origin
value_of (Some b) = pair_of b.value

-- how far values are beyond the stop of an entry, times the coefficient, with its sign by the direction
abbrev pub beyond : List Bound → Bool → (ℕ → Pair Number) → Entry Number → Pair Number
beyond held up v e =
    deltas.scale (directed up e.coefficient) (space_difference deltas (v e.variable) (value_of (stop_of held up e)))

-- the sum of this over entries
abbrev pub all_beyond : List Bound → Bool → (ℕ → Pair Number) → List (Entry Number) → Pair Number
all_beyond held up v [] = deltas.origin
all_beyond held up v (e ∷ es) = deltas.plus (beyond held up v e) (all_beyond held up v es)
