-- Steps by which the place of a form is made.
use Rattle.std.specs.Prelude.{◌≡◌, ◌⊎◌, false, List, [], ◌∷◌, Option, Some, None, Err}
use Rattle.spec_numbers.specs.Fractions.{opposite}
use Rattle.spec_numbers.specs.Bounds.{Overflow, divided}
use Rattle.spec_tableaux.specs.Numbers.{numbers}
use Rattle.ratio128.specs.declared.ratio.Ratio.{Ratio}
use Rattle.ratio128.specs.Meant.{fraction}
use Rattle.tableau.specs.declared.entries.Entry.{Entry}
use Rattle.tableau.specs.Numbers.{number_of}
use Rattle.tableau.specs.Entries.{entries_of}
use Rattle.simplex_check.specs.Assignments.{AssignmentView, state_of}
use Rattle.spec_tableaux.specs.BoundsOverflows.{OverflowsNew}
use Rattle.simplex_atoms.specs.declared.slack.Comparison.{Comparison}
use Rattle.simplex_atoms.specs.declared.slack.Slack.{Slack}
use Rattle.simplex_atoms.specs.Slacks.{IsSign}
use Rattle.simplex_atoms.specs.Atoms.{Ground, IsMultiple}

-- The place has this kind and constant, and its bound is that of its factor.
pub record IsMade (kind : Comparison) (constant : Ratio) (slack : Slack) : Type 0 where
  pub is_kind : slack.kind ≡ kind
  pub is_constant : slack.constant ≡ constant
  pub factor : numbers.is_zero (number_of slack.factor) ≡ false
  pub bound : number_of slack.bound
      ≡ numbers.times (numbers.opposite (number_of slack.constant)) (numbers.inverse (number_of slack.factor))

-- the sum of entries is the place's factor times its variable, wherever the rows hold
abbrev pub Covers : Ground → List Entry → Slack → Type 0
Covers g es slack = IsMultiple g (entries_of es) (number_of slack.factor) slack.variable

-- the place is on the variable of the one entry, or its factor is 1 or -1
abbrev pub IsOnEntry : List Entry → Slack → Type 0
IsOnEntry es slack = ((e : Entry) × (es ≡ e ∷ []) × (slack.variable ≡ e.variable)) ⊎ IsSign (number_of slack.factor)

-- the one entry, whose coefficient is not 0, where the entries are such a one
abbrev pub IsSingle : List Entry → Option Entry → Type 0
IsSingle es (Some e) = (es ≡ e ∷ []) × (numbers.is_zero (number_of e.coefficient) ≡ false)
IsSingle es None = (e : Entry) → es ≡ e ∷ [] → numbers.is_zero (number_of e.coefficient) ≡ false → ⊥

-- The place of entries and a constant comes to the overflow o.
pub data OverflowsEntries (b : AssignmentView) (constant : Ratio) (es : List Entry) (o : Overflow) : Type 0 where
  -- minus the constant, over the coefficient of the one entry
  bound : (e : Entry) → es ≡ e ∷ [] → divided (opposite (fraction constant)) (fraction e.coefficient) ≡ Err o
      → OverflowsEntries b constant es o
  -- the row of the entries
  row : OverflowsNew (state_of b) (entries_of es) o → OverflowsEntries b constant es o
