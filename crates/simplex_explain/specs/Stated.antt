-- The bounds that held literals state, by the places of their atoms.
use Rattle.std.specs.Prelude.{◌≡◌, ℕ, List, [], ◌∷◌, ◌++◌, map, Option, Some, None}
use Rattle.spec_simplex.specs.Constraints.{constraint_of}
use Rattle.term_core.specs.declared.ids.TermId.{TermId}
use Rattle.term_core.specs.declared.ids.Lit.{Lit}
use Rattle.term_core.specs.Tables.{TableView, term_at, positive_literal}
use Rattle.simplex_bounds.specs.declared.bounds.Bound.{Bound}
use Rattle.simplex_atoms.specs.declared.slack.Slack.{Slack}
use Rattle.simplex_atoms.specs.Slacks.{slack_in}
use Rattle.simplex_atoms.specs.Limits.{Limit, limit_of, limits_by}
use Rattle.simplex_atoms.specs.Watching.{IsWatched}

-- the bounds that a literal states whose atom has this place, if it has one
abbrev pub stated_at : Option Slack → Lit → List Limit
stated_at None l = []
stated_at (Some slack) l = limits_by slack l

-- the bounds that a literal states
abbrev pub stated_by : List (ℕ × Slack) → Lit → List Limit
stated_by slack_list l = stated_at (slack_in slack_list l.term) l

-- the bounds that literals state, those of the oldest first
abbrev pub all_stated : List (ℕ × Slack) → List Lit → List Limit
all_stated slack_list [] = []
all_stated slack_list (l ∷ ls) = stated_by slack_list l ++ all_stated slack_list ls

-- the bounds that are held are those that the literals state
abbrev pub AreBoundsOf : List (ℕ × Slack) → List Lit → List Bound → Type 0
AreBoundsOf slack_list held bounds = map limit_of bounds ≡ all_stated slack_list held

-- a term has a place exactly where it says something of linear arithmetic
abbrev pub IsKnownIn : TableView → List (ℕ × Slack) → TermId → Type 0
IsKnownIn t slack_list id = IsWatched (slack_in slack_list id) (constraint_of (positive_literal (term_at t id)))
