-- What reading a command of a proof comes to.
use Rattle.std.specs.Prelude.{◌≡◌, false, Result, Ok, Err}
use Rattle.spec_text.specs.Bytes.{among}
use Rattle.spec_sorts.specs.Signatures.{with_definitions}
use Rattle.spec_arithmetic.specs.Coefficients.{coefficients_of}
use Rattle.spec_proofs.specs.Faults.{Fault, Read, fault_at}
use Rattle.spec_checking.specs.Commands.{Known, Step, Statement, assumed, stepped, nothing, Command}
use Rattle.term_core.specs.Tables.{term_at, clause_at, IsIn, AreIn}
use Rattle.linear_form.specs.Coefficients.{coefficients_meant}
use Rattle.alethe_reader.specs.declared.errors.LocatedFault.{LocatedFault}
use Rattle.alethe_reader.specs.declared.errors.CommandError.{CommandError}
use Rattle.alethe_reader.specs.declared.errors.CommandError.TheVariants as errors
use Rattle.alethe_reader.specs.declared.proof_state.ProofState.{ProofState}
use Rattle.alethe_reader.specs.declared.reading.ProofStep as code_step
use Rattle.alethe_reader.specs.declared.reading.ReadCommand.{ReadCommand}
use Rattle.alethe_reader.specs.declared.reading.ReadCommand.TheVariants as code
use Rattle.alethe_reader.specs.Shapes.{given_view}
use Rattle.alethe_reader.specs.Holding.{IsKnown, clauses_numbered, AreNumbers}

-- a fault of a proof, by its offset
abbrev pub located_view : LocatedFault → Fault
located_view f = fault_at f.offset f.kind

-- a step in the words of the definitions
abbrev pub step_view : ProofState → code_step.ProofStep → Step
step_view h s = record {
  at = s.at;
  name = s.name.now;
  clause = clause_at h.table s.clause.items;
  rule = s.rule;
  premises = clauses_numbered h s.premises.items;
  arguments = given_view s.arguments;
}

-- what a command states, in the words of the definitions
abbrev pub statement_view : ProofState → ReadCommand → Statement
statement_view h (code.Assume at name id) = assumed at name.now (term_at h.table id)
statement_view h (code.Step s) = stepped (step_view h s)
statement_view h (code.Define at) = nothing at

-- the step's name is new, its terms and premises are there, and its arguments are read
pub record IsReadyStep (h : ProofState) (s : code_step.ProofStep) : Type 0 where
  -- no command before it has its name
  pub new : among h.names s.name.now ≡ false
  -- its terms are in the table
  pub clause : AreIn h.table s.clause.items
  -- its premises have clauses
  pub premises : AreNumbers h s.premises.items
  -- its coefficients are what the texts of its arguments write
  pub coefficients : coefficients_meant s.coefficients.items ≡ coefficients_of (given_view s.arguments)

-- the name is new, and terms and premises are there
abbrev pub IsReadyCommand : ProofState → ReadCommand → Type 0
IsReadyCommand h (code.Assume at name id) = (among h.names name.now ≡ false) × IsIn h.table id
IsReadyCommand h (code.Step s) = IsReadyStep h s
IsReadyCommand h (code.Define at) = Unit {0}

-- The command is read, and what it defines is known.
pub record IsRead (k : Known) (read : Read Command) (h : ProofState) (x : ReadCommand) : Type 0 where
  -- what it is read as
  pub command : Command
  -- it is that
  pub is : read ≡ Ok command
  -- it states this
  pub states : statement_view h x ≡ command.statement
  -- its definitions are known
  pub known : IsKnown h (record k { scope = with_definitions k.scope command.made })
  -- what it names is there
  pub ready : IsReadyCommand h x

-- the command is read, or has this first fault, unless memory ran out
abbrev pub ReadsProofCommand : Known → Read Command → Result ReadCommand CommandError → ProofState → Type 0
ReadsProofCommand k read (Ok x) h = IsRead k read h x
ReadsProofCommand k read (Err (errors.Fault f)) h = read ≡ Err (located_view f)
ReadsProofCommand k read (Err errors.Memory) h = Unit {0}
