-- Which commands are right, and the first fault of a proof, within a limit on terms, or with none. Source: Alethe
-- specification; the faults are own.
use Rattle.std.specs.Prelude.{◌≡◌, ℕ, List, [], ◌∷◌, ◌++◌, Any, ◌⊎◌, Option, Some, None, Ok, Err, Contains}
use Rattle.spec_text.specs.Trees.{Trees, none, more}
use Rattle.spec_sorts.specs.Signatures.{with_definitions}
use Rattle.spec_rules.specs.Rules.{IsRight, IsWide}
use Rattle.spec_proofs.specs.declared.ProofKind.TheVariants.{BadShape, NotAsserted, RuleFails, NoEmptyClause, Wide}
use Rattle.spec_proofs.specs.Faults.{Fault, Read, fault_at}
use Rattle.spec_checking.specs.Commands.{Known, NamedClause, Statement, assumed, stepped, nothing, Command}
use Rattle.spec_checking.specs.Reading.{command_of}

-- the earlier assumes and steps with what is stated after them
abbrev pub with_statement : List NamedClause → Statement → List NamedClause
with_statement es (assumed at n t) = es ++ record { name = n; clause = t ∷ [] } ∷ []
with_statement es (stepped s) = es ++ record { name = s.name; clause = s.clause } ∷ []
with_statement es (nothing at) = es

-- what is known after a command: what it defines, and its clause under its name
abbrev pub with_command : Known → Command → Known
with_command k c = record {
  scope = with_definitions k.scope c.made;
  asserted = k.asserted;
  entries = with_statement k.entries c.statement;
}

-- an assumed term is asserted, and a step is right by its rule; a definition that is read is right
abbrev pub IsRightAfter : Known → Statement → Type 0
IsRightAfter k (assumed at n t) = Contains k.asserted t
IsRightAfter k (stepped s) = IsRight s.rule s.premises s.arguments s.clause
IsRightAfter k (nothing at) = Unit {0}

-- whether a step is right cannot be told within the bound on numbers
abbrev pub IsWideStep : Statement → Type 0
IsWideStep (stepped s) = IsWide s.rule s.premises s.arguments s.clause
IsWideStep _ = ⊥

-- the fault of a statement that is not right, nor wide; a definition never has it
abbrev pub fault_of : Statement → Fault
fault_of (assumed at n t) = fault_at at NotAsserted
fault_of (stepped s) = fault_at s.at RuleFails
fault_of (nothing at) = fault_at at BadShape

-- the fault of a step that is wide; no other statement is
abbrev pub wide_fault : Statement → Fault
wide_fault (stepped s) = fault_at s.at Wide
wide_fault s = fault_of s

-- some clause is empty
abbrev pub HasEmptyClause : Known → Type 0
HasEmptyClause k = Any (λ (e : NamedClause). e.clause ≡ []) k.entries

-- after the last command: what ends the text wrongly is the fault; else, where no clause is empty, that is the fault,
-- at
-- the end of the text
abbrev pub EndsBy : Known → ℕ → Option Fault → Option Fault → Type 0
EndsBy k end (Some f) found = found ≡ Some f
EndsBy k end None None = HasEmptyClause k
EndsBy k end None (Some f) = (HasEmptyClause k → ⊥) × (f ≡ fault_at end NoEmptyClause)

-- the first fault of a command and those after it: that of reading it, else that of the rest where it is right, else
-- its
-- own
abbrev pub FaultBy : Known → Read Command → (Known → Type 0) → Option Fault → Type 0
FaultBy k (Err f) rest found = found ≡ Some f
FaultBy k (Ok c) rest found =
    (IsRightAfter k c.statement × rest (with_command k c))
    ⊎ ((IsWideStep c.statement × (found ≡ Some (wide_fault c.statement)))
    ⊎ ((IsRightAfter k c.statement → ⊥) × (IsWideStep c.statement → ⊥) × (found ≡ Some (fault_of c.statement))))

-- the first fault of a proof's commands and of what ends them, or none; each command within a limit
unfoldable pub FirstFault : Option ℕ → Known → ℕ → Option Fault → Trees → Option Fault → Type 0
FirstFault limit k end ending none found = EndsBy k end ending found
FirstFault limit k end ending (more t ts) found =
    FaultBy k (command_of limit k t) (λ next. FirstFault limit next end ending ts found) found
