-- What atoms are placed on, besides an assignment and bounds, and how all of these grow.
use Rattle.std.specs.Prelude.{◌≡◌, ℕ, ◌<◌, ◌≤◌, List, ◌++◌, length, All, Contains, Option, Some}
use Rattle.spec_tableaux.specs.Spaces.{Pair, as_space}
use Rattle.spec_tableaux.specs.Rows.{Entry, Row, Solves, sum_of}
use Rattle.spec_tableaux.specs.Numbers.{Number, numbers}
use Rattle.term_core.specs.declared.ids.TermId.{TermId}
use Rattle.term_core.specs.Tables.{TableView, term_at, IsIn}
use Rattle.simplex_bounds.specs.Held.{BoundsView}
use Rattle.simplex_check.specs.Assignments.{AssignmentView}
use Rattle.simplex_atoms.specs.declared.slack.Slack.{Slack}
use Rattle.simplex_atoms.specs.Owners.{AreOwnedOnce, AreOwnersIn}
use Rattle.simplex_atoms.specs.Grounded.{AreGrounded}
use Rattle.simplex_atoms.specs.Slacks.{AtomSetting, HasSlackIn, slack_in}
use Rattle.simplex_atoms.specs.Sums.{sign_by, Sum, IsListed}

-- For each variable the term that it stands for, the sums that have rows, and the slack variables of atoms.
pub record AtomsView : Type 0 where
  -- for each variable the term that it stands for; those of rows stand for none
  pub owners : List (Option TermId)
  -- the sums that variables of rows stand for, in any order
  pub sums : List Sum
  -- the places, by the numbers of the atoms, in any order
  pub slack_list : List (ℕ × Slack)

-- The variables: what they stand for, their rows and values.
pub record Ground : Type 0 where
  -- for each variable the term that it stands for, if it stands for one
  pub owners : List (Option TermId)
  pub assignment : AssignmentView

-- there is an entry for each variable of the assignment
abbrev pub AreCounted : Ground → Type 0
AreCounted g = length g.owners ≡ g.assignment.tableau.variables

-- rows as they were added have a solution for all values of terms
abbrev pub IsGrounded : Ground → Type 0
IsGrounded g = AreGrounded g.owners 0 g.assignment.tableau.listed g.assignment.tableau.variables

-- Variables and rows came after those that were there.
pub record GroundGrows (old new : Ground) : Type 0 where
  -- what the variables that came stand for
  pub more_owners : List (Option TermId)
  pub owners : new.owners ≡ old.owners ++ more_owners
  -- the rows that came
  pub more_rows : List (Row Number)
  pub listed : new.assignment.tableau.listed ≡ old.assignment.tableau.listed ++ more_rows
  -- the values of the variables that came
  pub more_values : List (Pair Number)
  pub values : new.assignment.values ≡ old.assignment.values ++ more_values

-- The sum of entries is the factor times a variable, wherever the rows hold.
pub record IsMultiple (g : Ground) (es : List (Entry Number)) (factor : Number) (y : ℕ) : Type 0 where
  -- the variable is there
  pub variable : y < length g.owners
  pub sum : (v : ℕ → Number) → Solves (as_space numbers) v g.assignment.tableau.listed
      → sum_of (as_space numbers) v es ≡ numbers.times factor (v y)

-- a sum is its variable, or minus it, wherever the rows hold
abbrev pub IsSum : Ground → Sum → Type 0
IsSum g s = IsMultiple g s.entries (sign_by s.opposite) s.variable

-- Each of the sums is, and that of each row is there.
pub record AreSums (g : Ground) (sums : List Sum) : Type 0 where
  pub each : All (IsSum g) sums
  pub rows : (r : Row Number) → Contains g.assignment.tableau.listed r → IsListed sums r.entries

-- Bounds can be held of more variables, and those that are held and the room for more are as before.
pub record KeepBounds (old new : BoundsView) : Type 0 where
  pub variables : old.variables ≤ new.variables
  pub held : new.held ≡ old.held
  pub room : new.room ≡ old.room

-- what variables stand for, with an assignment
abbrev pub ground_of : List (Option TermId) → AssignmentView → Ground
ground_of owners assignment = record { owners = owners; assignment = assignment }

-- what places are read by
abbrev pub setting_of : TableView → Ground → AtomSetting
setting_of t g = record { table = t; owners = g.owners; listed = g.assignment.tableau.listed }

-- A slack variable of an atom is its place, and bounds can be held of its variable.
pub record IsSlackOf (s : AtomSetting) (reach : ℕ) (id : TermId) (slack : Slack) : Type 0 where
  pub is_in : IsIn s.table id
  pub is : HasSlackIn s slack (term_at s.table id)
  pub reached : slack.variable < reach

-- each place that an atom has is its place
abbrev pub HaveSlacks : AtomSetting → ℕ → List (ℕ × Slack) → Type 0
HaveSlacks s reach slack_list = (id : TermId) (slack : Slack) → slack_in slack_list id ≡ Some slack
    → IsSlackOf s reach id slack

-- Atoms fit a table, an assignment and bounds.
pub record AtomsFit (t : TableView) (a : AtomsView) (b : AssignmentView) (bounds : BoundsView) : Type 0 where
  -- there is an entry for each variable of the assignment
  pub counted : AreCounted (ground_of a.owners b)
  -- bounds can be held of variables of the assignment alone; of all of them, but where memory ran out
  pub within : bounds.variables ≤ b.tableau.variables
  -- the terms that variables stand for are of the table
  pub owners_in : AreOwnersIn t a.owners
  -- no two variables stand for one term
  pub once : AreOwnedOnce a.owners
  -- rows as they were added have a solution for all values of terms
  pub grounded : IsGrounded (ground_of a.owners b)
  -- sums that are kept are those of their variables
  pub sums : AreSums (ground_of a.owners b) a.sums
  -- each place is that of its atom
  pub are_slacked : HaveSlacks (setting_of t (ground_of a.owners b)) bounds.variables a.slack_list
