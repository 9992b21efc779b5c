-- How the program ends.
use Rattle.std.specs.Prelude.{◌≡◌, ℕ, true, List, [], Option, None}
use Rattle.world_io.specs.Writing.{SinkView}
use Rattle.script_run.specs.declared.status.Status.{Status}
use Rattle.script_run.specs.Runs.{code_of}
use Rattle.script_run.specs.Scripts.{Holdings}
use Rattle.std.specs.Process.{exit_status}
use Rattle.smt_top.specs.declared.program.ProgramEnd.{ProgramEnd}
use Rattle.smt_top.specs.Arguments.{asked_of}
use Rattle.smt_top.specs.CommandLine.{AreTaken}
use Rattle.smt_top.specs.RunMeans.{RunMeans, is_answered}

-- The exit code is the number of the status of a run, and it is the run that the program's arguments ask for.
pub record Exits (code : ℕ) (known : Option (List (List ℕ))) (holds : Holdings) (old new : SinkView) : Type 0 where
  -- the status
  pub status : Status
  -- its number
  pub code_is : code ≡ code_of status
  -- the arguments of the run
  pub arguments : List (List ℕ)
  -- these are the program's, where they are known
  pub taken : AreTaken known arguments
  -- the run ends so
  pub ends : RunMeans status (asked_of arguments) holds old new
  -- where all was written, nothing waits
  pub passed_on : is_answered status ≡ true → new.pending ≡ []

-- the exit code is that of a run over real arguments, files and standard output, of which nothing is known
abbrev pub ExitsOutside : ℕ → Type 0
ExitsOutside code = (old : SinkView) × (new : SinkView) × Exits code None (λ name. None) old new

-- the exit code that the end of the program has
abbrev pub code_at : ProgramEnd → ℕ
code_at end = exit_status end.code
