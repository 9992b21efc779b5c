-- What simplex holds, how its parts fit together, and what they are over a table.
use Rattle.std.specs.Prelude.{◌≡◌, ℕ, ◌+◌, ◌*◌, ◌≤◌, ◌<◌, Bool, List, length, map, take, All, Some}
use Rattle.std.specs.List.{filter}
use Rattle.std.specs.Option.{is_some}
use Rattle.term_core.specs.declared.ids.TermId.{TermId}
use Rattle.term_core.specs.Tables.{TableView}
use Rattle.proof_log.specs.Theories.{TheoryView, Mark}
use Rattle.simplex_bounds.specs.Held.{BoundsView}
use Rattle.simplex_check.specs.Assignments.{AssignmentView}
use Rattle.simplex_atoms.specs.Atoms.{AtomsView, AtomsFit}
use Rattle.simplex_atoms.specs.Slacks.{slack_in}
use Rattle.simplex_atoms.specs.declared.slack.Slack.{Slack}
use Rattle.simplex.specs.declared.starts.Start.{Start}
use Rattle.simplex_explain.specs.Stated.{all_stated, AreBoundsOf, IsKnownIn}

-- Literals that are held, what their atoms are placed on, and the bounds that they state.
pub record SimplexView : Type 0 where
  -- the literals, the watched terms and the marks
  pub theory : TheoryView
  -- what variables stand for, and the slack variables of atoms
  pub atoms : AtomsView
  -- the rows, and the values of variables
  pub assignment : AssignmentView
  -- the bounds
  pub bounds : BoundsView
  -- how many bounds were held at each mark, and how many watched terms had a place
  pub starts : List Start

-- an atom has a place
abbrev pub has_slack : List (ℕ × Slack) → TermId → Bool
has_slack slack_list id = is_some (slack_in slack_list id)

-- how many of these have a place
abbrev pub slack_count : List (ℕ × Slack) → List TermId → ℕ
slack_count slack_list ids = length (filter (has_slack slack_list) ids)

-- how many bounds the literals at a mark state, and how many terms watched there have a place
abbrev pub start_of : List (ℕ × Slack) → TheoryView → Mark → Start
start_of slack_list theory m = record {
  bounds = length (all_stated slack_list (take m.held theory.held));
  slack_list = slack_count slack_list (take m.watched theory.watched);
}

-- The parts fit together.
pub record SimplexFits (v : SimplexView) : Type 0 where
  -- the bounds that are held are those that the literals state
  pub bounds_are : AreBoundsOf v.atoms.slack_list v.theory.held v.bounds.held
  -- and so they were at each mark
  pub starts_are : v.starts ≡ map (start_of v.atoms.slack_list v.theory) v.theory.marks
  -- there is room for the bounds of both literals of each watched atom
  pub room : 4 * slack_count v.atoms.slack_list v.theory.watched ≤ v.bounds.room + length v.bounds.held
  -- bounds can be held of the variables of places
  pub reached : (id : TermId) (slack : Slack) → slack_in v.atoms.slack_list id ≡ Some slack
      → slack.variable < v.bounds.variables

-- What it keeps of the terms that it watches is right over a table.
pub record IsOf (v : SimplexView) (t : TableView) : Type 0 where
  -- what atoms are placed on
  pub right : AtomsFit t v.atoms v.assignment v.bounds
  -- watched terms have places exactly where they say something of linear arithmetic
  pub known : All (IsKnownIn t v.atoms.slack_list) v.theory.watched
