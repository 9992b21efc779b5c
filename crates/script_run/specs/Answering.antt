-- A script that comes in pieces, and what the commands are answered that its bytes hold.
use Rattle.std.specs.Prelude.{◌≡◌, ℕ, Bool, false, List, ◌++◌}
use Rattle.std.specs.List.{list_any}
use Rattle.world_io.specs.Writing.{SinkView}
use Rattle.spec_text.specs.Trees.{Trees}
use Rattle.spec_text.specs.Readings.{kept}
use Rattle.spec_sessions.specs.Evidence.{Limits}
use Rattle.spec_sessions.specs.States.{first_state}
use Rattle.spec_sessions.specs.Responses.{Mode, Answered, is_rejected, is_end}
use Rattle.spec_sessions.specs.Transcripts.{Runs, state_left, answers_text}
use Rattle.check_evidence.specs.Evidence.{limits_meant}
use Rattle.sexpr_stream.specs.declared.stream.Stream.{Stream}
use Rattle.sexpr_stream.specs.Streams.{WantsMore}
use Rattle.sexpr_stream.specs.Pieces.{MayCome, HasTaken}
use Rattle.smt_session.specs.Sessions.{mode_meant, SessionView, IsSession}
use Rattle.script_run.specs.Runs.{Delivered, RunsText}
use Rattle.script_run.specs.declared.answering.Pause.{Pause}
use Rattle.script_run.specs.declared.answering.Pause.TheVariants.{ForMore, Ended}

-- What a run began with.
pub record RunStart : Type 0 where
  -- what each search of a check may spend
  pub limits : Limits
  -- how much is written
  pub mode : Mode
  -- the sink
  pub sink : SinkView

-- What is so between two commands of a script: these bytes were fed in all, and the commands were answered that were
-- taken of them.
pub record IsAnswering (b : RunStart) (fed : List ℕ) (s : Stream) (x : SessionView) (refused : Bool) (now : SinkView)
    : Type 0 where
  -- the commands
  pub commands : Trees
  -- they were taken
  pub taken : HasTaken s fed commands
  -- what they were answered
  pub answers : List Answered
  -- it is what they are to be answered
  pub runs : Runs b.limits first_state commands answers
  -- none of them ended the script
  pub goes_on : list_any (λ (a : Answered). is_end a.response) answers ≡ false
  -- what the session represents
  pub represents : IsSession x (state_left first_state answers)
  -- the limits of its checks
  pub limits_are : limits_meant x.limits ≡ b.limits
  -- how much it writes
  pub mode_is : mode_meant x.mode ≡ b.mode
  -- whether one was refused
  pub told : refused ≡ list_any (λ (a : Answered). is_rejected a.response) answers
  -- their responses were written, whatever comes, and nothing waits
  pub written : (rest : List ℕ) → MayCome s rest
      → Delivered (answers_text b.mode (kept (fed ++ rest)) answers) b.sink now

-- what is so where answering pauses: all commands were answered that the bytes hold, and more may come; or the run
-- ended as that of each text that goes on so
abbrev pub Pauses : RunStart → List ℕ → Stream → SessionView → Pause → SinkView → Type 0
Pauses b fed s x (ForMore refused) now = IsAnswering b fed s x refused now × WantsMore s
Pauses b fed s x (Ended status) now =
    (rest : List ℕ) → MayCome s rest → RunsText b.limits b.mode (fed ++ rest) status b.sink now
