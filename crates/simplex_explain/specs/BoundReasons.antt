-- Literals with weights that say why bounds cannot all be kept.
use Rattle.std.specs.Prelude.{◌≡◌, ℕ, Bool, List, [], ◌∷◌, Option, Some, None, Err, All, Contains}
use Rattle.spec_numbers.specs.Fractions.{Fraction}
use Rattle.spec_numbers.specs.Bounds.{Overflow, divided}
use Rattle.spec_tableaux.specs.Rows.{Entry}
use Rattle.spec_tableaux.specs.Numbers.{Number, numbers}
use Rattle.spec_simplex.specs.Constraints.{Relation}
use Rattle.ratio128.specs.Meant.{fraction, overflow}
use Rattle.term_core.specs.Tables.{TableView}
use Rattle.tableau.specs.Numbers.{number_of}
use Rattle.simplex_bounds.specs.declared.bounds.Bound.{Bound}
use Rattle.simplex_bounds.specs.Held.{BoundsView}
use Rattle.simplex_check.specs.Assignments.{AssignmentView}
use Rattle.simplex_atoms.specs.declared.slack.Slack.{Slack}
use Rattle.simplex_atoms.specs.Slacks.{relation_by, slack_in}
use Rattle.simplex_atoms.specs.Limits.{weight_of}
use Rattle.simplex_atoms.specs.Atoms.{AtomsView}
use Rattle.simplex_explain.specs.declared.weighted.Weighted.{Weighted}
use Rattle.simplex_explain.specs.Stops.{stop_of}
use Rattle.spec_causes.specs.Reasons.{directed}
use Rattle.simplex_explain.specs.declared.reason_stop.ReasonStop.{ReasonStop}
use Rattle.simplex_explain.specs.declared.reason_stop.ReasonStop.TheVariants.{Wide, Memory}

-- Bounds, with the slack variables of the atoms of their literals.
pub record Footing : Type 0 where
  -- the places, by the numbers of the atoms
  pub slack_list : List (ℕ × Slack)
  -- the bounds that are held
  pub held : List Bound

-- What variables and their rows mean: a table with the terms that variables stand for, and an assignment with the rows.
pub record Meaning : Type 0 where
  pub table : TableView
  pub assignment : AssignmentView

-- bounds, with the slack variables of atoms, as contracts see them
abbrev pub footing : AtomsView → BoundsView → Footing
footing atoms bounds = record { slack_list = atoms.slack_list; held = bounds.held }

-- the weight of a literal by what it says, where the variable on which it is placed is to have the weight s
abbrev pub weight_by : Option Relation → Slack → Number → Fraction
weight_by (Some r) slack s = weight_of r slack s
weight_by None slack s = (numbers.times s (numbers.inverse (number_of slack.factor))).fraction

-- A reason is the literal of the bound that stops the variable of an entry, with its weight.
pub record IsBoundReason (f : Footing) (up : Bool) (e : Entry Number) (w : Weighted) : Type 0 where
  -- the bound
  pub bound : Bound
  pub stops : stop_of f.held up e ≡ Some bound
  pub literal : w.literal ≡ bound.literal
  -- the slack variable of its literal's atom
  pub slack : Slack
  pub there : slack_in f.slack_list bound.literal.term ≡ Some slack
  pub weight : fraction w.weight
      ≡ weight_by (relation_by slack.kind bound.literal.positive) slack (directed up e.coefficient)

-- there is a reason for each entry, in their order
abbrev pub AreReasonsFor : Footing → Bool → List (Entry Number) → List Weighted → Type 0
AreReasonsFor f up [] [] = Unit {0}
AreReasonsFor f up (e ∷ es) (w ∷ ws) = IsBoundReason f up e w × AreReasonsFor f up es ws
AreReasonsFor f up _ _ = ⊥

-- A reason's literal is that of a bound that is held.
pub record IsOfHeld (held : List Bound) (w : Weighted) : Type 0 where
  -- the bound
  pub bound : Bound
  pub held_is : Contains held bound
  pub literal : w.literal ≡ bound.literal

-- so is each reason's
abbrev pub AreOfHeld : List Bound → List Weighted → Type 0
AreOfHeld held ws = All (IsOfHeld held) ws

-- The weight of the reason for an entry comes to the overflow o.
pub record OverflowsReason (f : Footing) (up : Bool) (e : Entry Number) (o : Overflow) : Type 0 where
  -- the bound that stops the variable
  pub bound : Bound
  pub stops : stop_of f.held up e ≡ Some bound
  -- the slack variable of its literal's atom
  pub slack : Slack
  pub there : slack_in f.slack_list bound.literal.term ≡ Some slack
  -- the coefficient, with its sign by the direction, over the factor of the place
  pub quotient : divided (directed up e.coefficient).fraction (fraction slack.factor) ≡ Err o

-- one of the weights comes to it
abbrev pub OverflowsReasons : Footing → Bool → List (Entry Number) → Overflow → Type 0
OverflowsReasons f up es o = (e : Entry Number) × Contains es e × OverflowsReason f up e o

-- where the stop is an overflow, p holds of it
abbrev pub OnReasonOverflow : (Overflow → Type 0) → ReasonStop → Type 0
OnReasonOverflow p (Wide w) = p (overflow w)
OnReasonOverflow p Memory = Unit {0}
