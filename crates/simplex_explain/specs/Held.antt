-- Bounds that can be held together with others that are stated.
use Rattle.std.specs.Prelude.{◌≡◌, ℕ, ◌<◌, List, Option, Some, None}
use Rattle.term_core.specs.declared.ids.TermId.{TermId}
use Rattle.simplex_bounds.specs.declared.bounds.Bound.{Bound}
use Rattle.simplex_atoms.specs.declared.slack.Slack.{Slack}
use Rattle.simplex_atoms.specs.Slacks.{slack_in}
use Rattle.simplex_explain.specs.Stops.{IsStatedBound}

-- bounds can be held of the variable of each place
abbrev pub AreReached : List (ℕ × Slack) → ℕ → Type 0
AreReached slack_list n = (id : TermId) (slack : Slack) → slack_in slack_list id ≡ Some slack → slack.variable < n

-- a bound, if there is one, is of a variable below n
abbrev pub IsUnder : ℕ → Option Bound → Type 0
IsUnder n None = Unit {0}
IsUnder n (Some b) = b.variable < n

-- a bound, if there is one, is stated by its literal
abbrev pub IsBoundStated : List (ℕ × Slack) → Option Bound → Type 0
IsBoundStated slack_list None = Unit {0}
IsBoundStated slack_list (Some b) = IsStatedBound slack_list b
