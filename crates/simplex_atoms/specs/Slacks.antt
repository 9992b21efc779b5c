-- Which variable of a tableau an atom of linear arithmetic bounds: its form is a multiple of the variable, and a
-- constant.
use Rattle.std.specs.Prelude.{◌≡◌, ◌⊎◌, ℕ, ◌<◌, Bool, true, false, List, length, nat_eq, Option, Some, None, Ok}
use Rattle.std.specs.Map.{lookup}
use Rattle.spec_sorts.specs.Terms.{Term}
use Rattle.spec_arithmetic.specs.Forms.{Form, variables_value}
use Rattle.spec_tableaux.specs.Spaces.{as_space}
use Rattle.spec_tableaux.specs.Rows.{Row, Solves}
use Rattle.spec_tableaux.specs.Numbers.{Number, numbers}
use Rattle.spec_simplex.specs.Constraints.{Relation, below, at_most, equals, at_least, above, Constraint, constraint_of}
use Rattle.spec_simplex.specs.Constraints.{form_of}
use Rattle.ratio128.specs.Meant.{fraction}
use Rattle.term_core.specs.declared.ids.TermId.{TermId}
use Rattle.term_core.specs.Tables.{TableView, positive_literal}
use Rattle.tableau.specs.Numbers.{number_of}
use Rattle.simplex_atoms.specs.declared.slack.Comparison.{Comparison}
use Rattle.simplex_atoms.specs.declared.slack.Comparison.TheVariants as kinds
use Rattle.simplex_atoms.specs.declared.slack.Slack.{Slack}
use Rattle.simplex_atoms.specs.Owners.{owner_at, AreOwned}

-- What places are read by.
pub record AtomSetting : Type 0 where
  -- the terms
  pub table : TableView
  -- for each variable the term that it stands for, if it stands for one
  pub owners : List (Option TermId)
  -- the rows as they were added
  pub listed : List (Row Number)

-- what an atom of a kind says of its form
abbrev pub relation_meant : Comparison → Relation
relation_meant kinds.Less = below
relation_meant kinds.AtMost = at_most
relation_meant kinds.Equal = equals

-- what a literal says of the form of its atom, by the kind of this and whether it is meant positively; that numbers
-- differ is nothing that bounds say
abbrev pub relation_by : Comparison → Bool → Option Relation
relation_by kinds.Less true = Some below
relation_by kinds.Less false = Some at_least
relation_by kinds.AtMost true = Some at_most
relation_by kinds.AtMost false = Some above
relation_by kinds.Equal true = Some equals
relation_by kinds.Equal false = None

-- the number is 1 or -1
abbrev pub IsSign : Number → Type 0
IsSign k = (k ≡ numbers.one) ⊎ (k ≡ numbers.opposite numbers.one)

-- The form is the factor times the variable, plus the constant, wherever the rows hold.
pub record IsFormOf (s : AtomSetting) (slack : Slack) (f : Form) : Type 0 where
  -- the factor is not 0
  pub factor : numbers.is_zero (number_of slack.factor) ≡ false
  -- the form is 0 where the variable is at the bound
  pub bound : number_of slack.bound
      ≡ numbers.times (numbers.opposite (number_of slack.constant)) (numbers.inverse (number_of slack.factor))
  -- the variable is there
  pub variable : slack.variable < length s.owners
  -- where it stands for no term, the factor is 1 or -1
  pub unit : owner_at s.owners slack.variable ≡ None → IsSign (number_of slack.factor)
  -- the constant is that of the form
  pub constant : f.constant ≡ fraction slack.constant
  -- the form's variables come to the factor times the variable
  pub value : (n : Term → Number) (v : ℕ → Number) → AreOwned s.table s.owners n v
      → Solves (as_space numbers) v s.listed → variables_value (λ u. (n u).fraction) f.variables
      ≡ (numbers.times (number_of slack.factor) (v slack.variable)).fraction

-- The slack variable of an atom: what it says of its form, and the variable of which the form is a multiple, but for a
-- constant.
pub record HasSlackIn (s : AtomSetting) (slack : Slack) (atom : Term) : Type 0 where
  -- what the atom says
  pub constraint : Constraint
  pub says : constraint_of (positive_literal atom) ≡ Some constraint
  pub kind : constraint.relation ≡ relation_meant slack.kind
  -- its form
  pub form : Form
  pub has : form_of constraint ≡ Ok form
  pub is : IsFormOf s slack form

-- the slack variable of an atom by its number, among all that are placed
abbrev pub slack_in : List (ℕ × Slack) → TermId → Option Slack
slack_in slack_list id = lookup (nat_eq id.0) slack_list
