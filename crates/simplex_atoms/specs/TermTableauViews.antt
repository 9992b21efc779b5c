-- What an assignment with the terms of its variables is, as a table means it.
use Rattle.std.specs.Prelude.{◌≡◌, ℕ, List, map, Contains, Option, Some, None, Result, Ok, Err}
use Rattle.spec_sorts.specs.Terms.{Term}
use Rattle.spec_arithmetic.specs.Forms.{Form}
use Rattle.spec_tableaux.specs.Rows.{Row}
use Rattle.spec_tableaux.specs.Numbers.{Number}
use Rattle.spec_causes.specs.TermTableau.{TermTableau}
use Rattle.spec_causes.specs.Reached.{IsFormAmong, IsReached}
use Rattle.ratio128.specs.declared.ratio.Ratio.{Ratio}
use Rattle.ratio128.specs.Meant.{fraction}
use Rattle.term_core.specs.declared.ids.TermId.{TermId}
use Rattle.term_core.specs.Tables.{TableView, term_at, IsIn, AreDifferent}
use Rattle.sat_budget.specs.declared.limits.Basis.{Basis}
use Rattle.simplex_bounds.specs.Deltas.{pair_of}
use Rattle.simplex_check.specs.Assignments.{AssignmentView}
use Rattle.simplex_atoms.specs.declared.stop.AtomStop.{AtomStop}
use Rattle.simplex_atoms.specs.declared.stop.AtomStop.TheVariants as stops
use Rattle.simplex_atoms.specs.Owners.{AreOwnersIn}
use Rattle.simplex_atoms.specs.Atoms.{Ground}

-- the term that a variable stands for, where it stands for one
abbrev pub owner_meant : TableView → Option TermId → Option Term
owner_meant t None = None
owner_meant t (Some id) = Some (term_at t id)

-- an assignment whose variables stand for these terms
abbrev pub term_tableau_in : TableView → List (Option TermId) → AssignmentView → TermTableau
term_tableau_in t owners b = record {
  owners = map (owner_meant t) owners;
  listed = b.tableau.listed;
  rows = b.tableau.rows;
  values = b.values;
}

-- the variables are the basic ones, in the order of their rows, and the values are those of all variables
abbrev pub IsBasisAt : TermTableau → Basis → Type 0
IsBasisAt s basis =
    (basis.variables.items ≡ map (λ (r : Row Number). r.basic) s.rows) × (map pair_of basis.values.items ≡ s.values)

-- P is so, unless memory ran out
abbrev pub ButForMemory : {A : Type 0} → Type 0 → Result A AtomStop → Type 0
ButForMemory P (Ok _) = P
ButForMemory P (Err (stops.Wide w)) = P
ButForMemory P (Err stops.Memory) = Unit {0}

-- over terms with an atom of the form f, simplex comes to the new ground if it came to the old one
abbrev pub GroundLeads : TableView → Form → Ground → Ground → Type 0
GroundLeads t f old new = (ts : List Term) (n : ℕ) (es : List (ℕ × ℕ)) → IsFormAmong ts f
    → IsReached ts n es (term_tableau_in t old.owners old.assignment)
    → IsReached ts n es (term_tableau_in t new.owners new.assignment)

-- different numbers mean different terms, and those that variables stand for are of the table
abbrev pub TellsOwners : TableView → List (Option TermId) → Type 0
TellsOwners t owners = AreDifferent t.terms × AreOwnersIn t owners

-- the term is of the table, and a variable of the form, with this coefficient
abbrev pub IsVariableOf : TableView → Form → TermId × Ratio → Type 0
IsVariableOf t f p = IsIn t p.0 × Contains f.variables (term_at t p.0, fraction p.1)
