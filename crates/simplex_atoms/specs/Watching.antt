-- What it is to watch an atom, and by which operations it can leave the bound on fractions.
use Rattle.std.specs.Prelude.{◌≡◌, List, [], ◌∷◌, map, Option, Some, None, Result, Ok, Err, IsSome}
use Rattle.spec_numbers.specs.Fractions.{Fraction, opposite}
use Rattle.spec_numbers.specs.Bounds.{Overflow, divided}
use Rattle.spec_sorts.specs.Terms.{Term}
use Rattle.spec_arithmetic.specs.Forms.{Form, Fault}
use Rattle.spec_tableaux.specs.Rows.{Entry}
use Rattle.spec_tableaux.specs.Numbers.{Number}
use Rattle.spec_simplex.specs.Constraints.{Constraint, constraint_of, form_of}
use Rattle.spec_causes.specs.TermTableau.{AreEntriesOf}
use Rattle.ratio128.specs.declared.ratio.Ratio.{Ratio}
use Rattle.ratio128.specs.Meant.{overflow}
use Rattle.term_core.specs.declared.ids.TermId.{TermId}
use Rattle.term_core.specs.Tables.{TableView, term_at, IsIn, positive_literal}
use Rattle.linear_form.specs.Meant.{FormView, form_meant}
use Rattle.simplex_check.specs.Assignments.{AssignmentView, state_of}
use Rattle.spec_tableaux.specs.BoundsOverflows.{OverflowsNew}
use Rattle.tableau.specs.declared.entries.Entry.{Entry as CodeEntry}
use Rattle.term_core.specs.declared.nodes.Head.{Head}
use Rattle.term_core.specs.declared.nodes.Head.TheVariants as heads
use Rattle.simplex_atoms.specs.declared.slack.Comparison.{Comparison}
use Rattle.simplex_atoms.specs.declared.slack.Comparison.TheVariants as kinds
use Rattle.simplex_atoms.specs.declared.reading.AtomSides.{AtomSides}
use Rattle.simplex_atoms.specs.declared.slack.Slack.{Slack}
use Rattle.simplex_atoms.specs.declared.stop.AtomStop.{AtomStop}
use Rattle.simplex_atoms.specs.declared.stop.AtomStop.TheVariants as stops
use Rattle.simplex_atoms.specs.Owners.{owner_at}
use Rattle.simplex_atoms.specs.Slacks.{relation_meant}
use Rattle.simplex_atoms.specs.TermTableauViews.{owner_meant}

-- how atoms with a head compare numbers, where they do
abbrev pub kind_by : Head → Option Comparison
kind_by heads.Less = Some kinds.Less
kind_by heads.AtMost = Some kinds.AtMost
kind_by heads.Equal = Some kinds.Equal
kind_by h = None

-- what an atom says, by the code's words
abbrev pub constraint_meant : TableView → AtomSides → Constraint
constraint_meant t s = record {
  relation = relation_meant s.kind;
  atom = term_at t s.atom;
  left = term_at t s.left;
  right = term_at t s.right;
}

-- the same, where it says something
abbrev pub sides_meant : TableView → Option AtomSides → Option Constraint
sides_meant t None = None
sides_meant t (Some s) = Some (constraint_meant t s)

-- both sides are terms of the table
abbrev pub HasSidesIn : TableView → Option AtomSides → Type 0
HasSidesIn t None = Unit {0}
HasSidesIn t (Some s) = IsIn t s.left × IsIn t s.right

-- An entry stands for a variable of a form: its number is that of the variable's term.
pub record IsNumbered (owners : List (Option TermId)) (e : CodeEntry) (x : TermId × Ratio) : Type 0 where
  pub owner : owner_at owners e.variable ≡ Some x.0
  pub coefficient : e.coefficient ≡ x.1

-- so do entries for the variables, in order
abbrev pub EntriesAreNumbered : List (Option TermId) → List CodeEntry → List (TermId × Ratio) → Type 0
EntriesAreNumbered owners [] [] = Unit {0}
EntriesAreNumbered owners (e ∷ es) (x ∷ xs) = IsNumbered owners e x × EntriesAreNumbered owners es xs
EntriesAreNumbered owners _ _ = ⊥

-- where the stop is an overflow, p holds of it
abbrev pub OnAtomOverflow : (Overflow → Type 0) → AtomStop → Type 0
OnAtomOverflow p (stops.Wide w) = p (overflow w)
OnAtomOverflow p stops.Memory = Unit {0}

-- The form's first operation that leaves 128 bits, or the form that a table means, or out of memory, which says
-- nothing.
abbrev pub Forms : TableView → Result Form Fault → Result FormView AtomStop → Type 0
Forms t a (Ok f) = a ≡ Ok (form_meant t f)
Forms t a (Err (stops.Wide w)) = (e : Fault) × (a ≡ Err e) × (e.overflow ≡ overflow w)
Forms t a (Err stops.Memory) = Unit {0}

-- for each variable the term that it stands for, if it stands for one
abbrev pub Owned : Type 0
Owned = List (Option TermId)

-- The place of a form, with these variables on an assignment, comes to the overflow o.
pub data OverflowsForm (t : TableView) (owners : Owned) (b : AssignmentView) (f : Form) (o : Overflow) : Type 0 where
  -- minus the constant, over the coefficient of the one variable
  bound : (u : Term) (k : Fraction) → f.variables ≡ (u, k) ∷ [] → divided (opposite f.constant) k ≡ Err o
      → OverflowsForm t owners b f o
  -- the row of the variables
  row : (es : List (Entry Number)) → AreEntriesOf (map (owner_meant t) owners) es f.variables
      → OverflowsNew (state_of b) es o → OverflowsForm t owners b f o

-- The slack variable of an atom comes to the overflow o: its form does, or the place of this.
pub data OverflowsAtom (t : TableView) (owners : Owned) (b : AssignmentView) (id : TermId) (o : Overflow) : Type 0 where
  in_form : (c : Constraint) → constraint_of (positive_literal (term_at t id)) ≡ Some c
      → (e : Fault) → form_of c ≡ Err e → e.overflow ≡ o → OverflowsAtom t owners b id o
  in_place : (c : Constraint) → constraint_of (positive_literal (term_at t id)) ≡ Some c
      → (f : Form) → form_of c ≡ Ok f → OverflowsForm t owners b f o → OverflowsAtom t owners b id o

-- an atom has a place exactly where it says something of linear arithmetic
abbrev pub IsWatched : Option Slack → Option Constraint → Type 0
IsWatched (Some slack) c = IsSome c
IsWatched None c = c ≡ None
