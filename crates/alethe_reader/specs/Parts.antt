-- What reading the parts of a command comes to.
use Rattle.std.specs.Prelude.{◌≡◌, ◌↔◌, List, [], Vec, Contains, Result, Ok, Err}
use Rattle.std.specs.declared.alloc.Global.{Global}
use Rattle.spec_sorts.specs.Signatures.{Definition, with_definitions}
use Rattle.spec_reading.specs.Reading.{Reading, Readings}
use Rattle.spec_proofs.specs.declared.Rule.{Rule}
use Rattle.spec_proofs.specs.Faults.{Read}
use Rattle.spec_checking.specs.Commands.{Known}
use Rattle.term_core.specs.declared.ids.TermId.{TermId}
use Rattle.term_core.specs.Tables.{IsIn, AreIn, term_at, clause_at}
use Rattle.alethe_reader.specs.declared.errors.CommandError.{CommandError}
use Rattle.alethe_reader.specs.declared.errors.CommandError.TheVariants as errors
use Rattle.alethe_reader.specs.declared.proof_state.ProofState.{ProofState}
use Rattle.alethe_reader.specs.Holding.{IsKnown, entries_of}
use Rattle.alethe_reader.specs.Reads.{located_view}

-- the names of a state with their clauses, as all that is known
abbrev pub known_entries : ProofState → Known
known_entries h = record { scope = []; asserted = []; entries = entries_of h.table h.names h.clauses.items }

-- what is known, with definitions more
abbrev pub with_made : Known → List Definition → Known
with_made k ds = record k { scope = with_definitions k.scope ds }

-- a rule is itself
abbrev pub rule_meant : Rule → Rule
rule_meant r = r

-- two lists have the same members
abbrev pub HaveSameMembers : List TermId → List TermId → Type 0
HaveSameMembers xs ys = (id : TermId) → Contains xs id ↔ Contains ys id

-- the fault is the same, unless memory ran out
abbrev pub StopsRead : {A : Type 0} → CommandError → Read A → Type 0
StopsRead (errors.Fault f) read = read ≡ Err (located_view f)
StopsRead errors.Memory read = Unit {0}

-- what a function returned, seen by a view, is what is read, or the fault is the same, unless memory ran out
abbrev pub Gives : {X Y : Type 0} → (X → Y) → Result X CommandError → Read Y → Type 0
Gives view (Ok x) read = read ≡ Ok (view x)
Gives view (Err e) read = StopsRead e read

-- The literals are read, by the numbers of their terms.
pub record HasLiterals (k : Known) (h : ProofState) (answer : Read Readings) (ids : List TermId) : Type 0 where
  -- what they are read as
  pub readings : Readings
  -- they are that
  pub read : answer ≡ Ok readings
  -- the numbers are of the table's
  pub there : AreIn h.table ids
  -- they are those of their terms
  pub terms : clause_at h.table ids ≡ readings.terms
  -- what they define is known
  pub known : IsKnown h (with_made k readings.made)

-- the literals are read, or have this first fault, unless memory ran out
abbrev pub ReadsLiterals : Known → ProofState → Read Readings → Result (Vec TermId Global) CommandError → Type 0
ReadsLiterals k h answer (Ok v) = HasLiterals k h answer v.items
ReadsLiterals k h answer (Err e) = StopsRead e answer

-- The formula is read, by the number of its term.
pub record HasFormula (k : Known) (h : ProofState) (answer : Read Reading) (id : TermId) : Type 0 where
  -- what it is read as
  pub reading : Reading
  -- it is that
  pub read : answer ≡ Ok reading
  -- the number is one of the table's
  pub there : IsIn h.table id
  -- it is that of the term
  pub term : term_at h.table id ≡ reading.term
  -- what it defines is known
  pub known : IsKnown h (with_made k reading.made)

-- the formula is read, or has this first fault, unless memory ran out
abbrev pub ReadsFormula : Known → ProofState → Read Reading → Result TermId CommandError → Type 0
ReadsFormula k h answer (Ok id) = HasFormula k h answer id
ReadsFormula k h answer (Err e) = StopsRead e answer

-- The definition is read.
pub record HasMade (k : Known) (h : ProofState) (answer : Read (List Definition)) : Type 0 where
  -- what it makes
  pub definitions : List Definition
  -- it is that
  pub read : answer ≡ Ok definitions
  -- it is known
  pub known : IsKnown h (with_made k definitions)

-- the definition is read, or has this first fault, unless memory ran out
abbrev pub ReadsDefinition : Known → ProofState → Read (List Definition) → Result (Unit {0}) CommandError → Type 0
ReadsDefinition k h answer (Ok u) = HasMade k h answer
ReadsDefinition k h answer (Err e) = StopsRead e answer
