-- How variables and rows come while a form gets its place.
use Rattle.std.specs.Prelude.{List, map, All}
use Rattle.spec_arithmetic.specs.Forms.{Form}
use Rattle.spec_tableaux.specs.Rows.{Entry}
use Rattle.spec_tableaux.specs.Numbers.{Number}
use Rattle.spec_causes.specs.TermTableau.{AreEntriesOf}
use Rattle.ratio128.specs.declared.ratio.Ratio.{Ratio}
use Rattle.term_core.specs.declared.ids.TermId.{TermId}
use Rattle.term_core.specs.Tables.{TableView, IsIn}
use Rattle.linear_form.specs.Meant.{FormView, form_meant, AreVariablesOf}
use Rattle.simplex_check.specs.Assignments.{AssignmentView}
use Rattle.simplex_atoms.specs.declared.meanings.Meanings.{Meanings}
use Rattle.simplex_atoms.specs.Owners.{AreOwnersIn}
use Rattle.simplex_atoms.specs.Atoms.{Ground, ground_of, AreCounted, IsGrounded, GroundGrows, AreSums}
use Rattle.simplex_atoms.specs.TermTableauViews.{owner_meant, GroundLeads, TellsOwners, IsVariableOf}

-- the variables of an assignment, with what they stand for
abbrev pub ground_on : Meanings → AssignmentView → Ground
ground_on m b = ground_of m.owners.list b

-- Meanings are those of the variables of an assignment.
pub record MeaningsFit (m : Meanings) (b : AssignmentView) : Type 0 where
  -- there is an entry for each variable
  pub counted : AreCounted (ground_on m b)
  -- each sum is its variable, or minus it, and that of each row is there
  pub sums : AreSums (ground_on m b) m.sums.list

-- Variables and rows came, and what they stand for is as right as before.
pub record Grown (Has : TableView → Type 0) (m : Meanings) (b : AssignmentView) (n : Meanings) (c : AssignmentView)
    : Type 0 where
  pub fit : MeaningsFit n c
  pub grows : GroundGrows (ground_on m b) (ground_on n c)
  -- rows have a solution for all values of terms, if they had one
  pub grounded : IsGrounded (ground_on m b) → IsGrounded (ground_on n c)
  -- terms that variables stand for are of each table that has what is asked of it, if they were of it
  pub there : (t : TableView) → Has t → AreOwnersIn t m.owners.list → AreOwnersIn t n.owners.list

-- nothing is asked of a table
abbrev pub any_table : TableView → Type 0
any_table t = Unit {0}

-- the table has the terms of the variables
abbrev pub VariablesAreIn : List (TermId × Ratio) → TableView → Type 0
VariablesAreIn xs t = All (λ (p : TermId × Ratio). IsIn t p.0) xs

-- simplex comes to the new variables and rows if it came to the old ones, over terms with an atom whose form has the
-- variable
abbrev pub LeadsByVariable : TermId × Ratio → Meanings → AssignmentView → Meanings → AssignmentView → Type 0
LeadsByVariable x m b n c = (t : TableView) (f : Form) → TellsOwners t m.owners.list → IsVariableOf t f x
    → GroundLeads t f (ground_on m b) (ground_on n c)

-- the same of a form that has each of the variables
abbrev pub LeadsByVariables : List (TermId × Ratio) → Meanings → AssignmentView → Meanings → AssignmentView → Type 0
LeadsByVariables xs m b n c = (t : TableView) (f : Form) → TellsOwners t m.owners.list → All (IsVariableOf t f) xs
    → GroundLeads t f (ground_on m b) (ground_on n c)

-- of a form whose variables the entries stand for
abbrev pub LeadsByEntries : List (Entry Number) → Meanings → AssignmentView → Meanings → AssignmentView → Type 0
LeadsByEntries es m b n c = (t : TableView) (f : Form)
    → AreEntriesOf (map (owner_meant t) m.owners.list) es f.variables
    → GroundLeads t f (ground_on m b) (ground_on n c)

-- and of this form
abbrev pub LeadsByForm : FormView → Meanings → AssignmentView → Meanings → AssignmentView → Type 0
LeadsByForm form m b n c = (t : TableView) → AreVariablesOf t form → TellsOwners t m.owners.list
    → GroundLeads t (form_meant t form) (ground_on m b) (ground_on n c)
