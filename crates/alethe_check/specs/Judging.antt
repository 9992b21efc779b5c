-- What judging the commands of a proof comes to, one after the other and all of them.
use Rattle.std.specs.Prelude.{◌≡◌, ◌⊎◌, ℕ, Bool, true, false, List, [], ◌∷◌, length, Option, Some, None, Result, Ok}
use Rattle.std.specs.Prelude.{Err, ◌==◌, if◌then◌else◌}
use Rattle.spec_text.specs.Readings.{is_long}
use Rattle.spec_text.specs.Trees.{Trees}
use Rattle.spec_commands.specs.Checks.{term_limit}
use Rattle.spec_proofs.specs.Faults.{Fault, Read}
use Rattle.spec_proofs.specs.Texts.{Ending, IsProofText, ending_fault}
use Rattle.spec_checking.specs.Commands.{Known, Command}
use Rattle.spec_checking.specs.Judging.{with_command, IsRightAfter, EndsBy, FirstFault}
use Rattle.term_core.specs.declared.ids.TermId.{TermId}
use Rattle.alethe_reader.specs.declared.proof_state.ProofState.{ProofState}
use Rattle.alethe_reader.specs.declared.errors.CommandError.{CommandError}
use Rattle.alethe_reader.specs.declared.errors.CommandError.TheVariants as errors
use Rattle.alethe_reader.specs.declared.reader.Reader.{Reader}
use Rattle.alethe_reader.specs.Holding.{IsKnown}
use Rattle.alethe_reader.specs.Reads.{located_view}
use Rattle.alethe_reader.specs.Endings.{IsEnding}
use Rattle.alethe_reader.specs.Remaining.{text_of, AreRemaining}
use Rattle.alethe_check.specs.Stating.{IsWrong}

-- A command is read, it is right, and it is known now.
pub record TakesCommand (k : Known) (read : Read Command) (new : ProofState) : Type 0 where
  -- the command
  pub command : Command
  -- it is what is read
  pub is : read ≡ Ok command
  -- it is right
  pub right : IsRightAfter k command.statement
  -- it is known
  pub known : IsKnown new (with_command k command)

-- A command is read, and what it states has this fault.
pub record IsRefused (k : Known) (read : Read Command) (f : Fault) : Type 0 where
  -- the command
  pub command : Command
  -- it is what is read
  pub is : read ≡ Ok command
  -- it is wide, or not right
  pub wrong : IsWrong k command.statement f

-- a command is right, and is known now; or it is not read, or not right
abbrev pub JudgesOne : Known → Read Command → Result (Unit {0}) CommandError → ProofState → Type 0
JudgesOne k read (Ok u) new = TakesCommand k read new
JudgesOne k read (Err (errors.Fault f)) new = (read ≡ Err (located_view f)) ⊎ IsRefused k read (located_view f)
JudgesOne k read (Err errors.Memory) new = Unit {0}

-- What is known after commands: what the first fault is from there on is that of all.
pub record KnownAfter (k : Known) (ts : Trees) (new : ProofState) : Type 0 where
  -- what is known after them
  pub now : Known
  -- the state represents it
  pub known : IsKnown new now
  -- where they end so, this is the first fault of all
  pub fault : (end : ℕ) (ending found : Option Fault) → EndsBy now end ending found
      → FirstFault (Some term_limit) k end ending ts found

-- All commands that were to come are right, and nothing ends them with a fault.
pub record CommandsAreRight (r : Reader) (k : Known) (new : ProofState) : Type 0 where
  -- the commands
  pub commands : Trees
  -- what comes after them
  pub ending : Ending
  -- they were to come
  pub read : AreRemaining r commands ending
  -- it is no fault
  pub ends : IsEnding (text_of r) ending None
  -- what is known after them
  pub after : KnownAfter k commands new

-- The commands that were to come and their ending have this first fault, however long the text is.
pub record AreWrong (r : Reader) (k : Known) (f : Fault) : Type 0 where
  -- the commands
  pub commands : Trees
  -- what comes after them
  pub ending : Ending
  -- they were to come
  pub read : AreRemaining r commands ending
  -- their first fault
  pub fault : (end : ℕ) → FirstFault (Some term_limit) k end (ending_fault (is_long (text_of r)) ending) commands
      (Some f)

-- the commands that were to come are right, or one of them or their ending has the first fault
abbrev pub JudgesCommands : Reader → Known → Result (Unit {0}) CommandError → ProofState → Type 0
JudgesCommands r k (Ok u) new = CommandsAreRight r k new
JudgesCommands r k (Err (errors.Fault f)) new = AreWrong r k (located_view f)
JudgesCommands r k (Err errors.Memory) new = Unit {0}

-- A text's commands and their ending have this first fault, or none.
pub record IsJudgedFrom (k : Known) (text : List ℕ) (found : Option Fault) : Type 0 where
  -- the commands
  pub commands : Trees
  -- what comes after them
  pub ending : Ending
  -- they are those of the text
  pub read : IsProofText text commands ending
  -- their first fault
  pub fault : FirstFault (Some term_limit) k (length text) (ending_fault (is_long text) ending) commands found

-- a proof was judged
abbrev pub JudgesAll : List ℕ → Known → Result (Unit {0}) CommandError → Type 0
JudgesAll text k (Ok u) = IsJudgedFrom k text None
JudgesAll text k (Err (errors.Fault f)) = IsJudgedFrom k text (Some (located_view f))
JudgesAll text k (Err errors.Memory) = Unit {0}

-- what is answered at the end of the commands, where it is no fault
abbrev pub Finishes : Known → List ℕ → Result (Unit {0}) CommandError → Type 0
Finishes k text (Ok u) = EndsBy k (length text) None None
Finishes k text (Err (errors.Fault f)) = EndsBy k (length text) None (Some (located_view f))
Finishes k text (Err errors.Memory) = Unit {0}

-- whether one of the clauses is empty
abbrev pub some_empty : List (List TermId) → Bool
some_empty [] = false
some_empty (c ∷ cs) = if length c == 0 then true else some_empty cs
