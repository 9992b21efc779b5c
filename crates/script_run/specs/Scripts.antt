-- How the run of a script ends that a shelf holds.
use Rattle.std.specs.Prelude.{◌≡◌, ◌+◌, ◌^◌, ◌≤◌, ◌⊎◌, ℕ, true, false, List, ◌++◌, length, Option, Some, None}
use Rattle.std.specs.Prelude.{IfSome, ⊤}
use Rattle.std.specs.List.{list_any}
use Rattle.std.specs.Io.KnownBytes.{Consumes, Keeps}
use Rattle.world_io.specs.Writing.{SinkView, NotSent}
use Rattle.spec_text.specs.Trees.{Trees}
use Rattle.spec_sessions.specs.Evidence.{Limits}
use Rattle.spec_sessions.specs.States.{first_state}
use Rattle.spec_sessions.specs.Responses.{Mode, Answered, is_end}
use Rattle.spec_sessions.specs.Transcripts.{Runs, answers_text}
use Rattle.spec_sessions.specs.Statements.{AnswersSay, OnTranscript, OnBegun}
use Rattle.sat_budget.specs.declared.limits.Limits.{Limits as CodeLimits}
use Rattle.check_evidence.specs.Evidence.{limits_meant}
use Rattle.sexpr_stream.specs.Pieces.{HoldTrees}
use Rattle.smt_session.specs.declared.mode.Mode.{Mode as CodeMode}
use Rattle.smt_session.specs.Sessions.{mode_meant}
use Rattle.script_run.specs.Answering.{RunStart}
use Rattle.script_run.specs.Runs.{Delivered, EndsText}
use Rattle.script_run.specs.declared.status.Status.{Status}
use Rattle.script_run.specs.declared.status.Status.TheVariants.{Done, Refused, Words, Memory, ReadFault, WriteFault}

-- what each name holds, where that is known
abbrev pub Holdings : Type 0
Holdings = List ℕ → Option (List ℕ)

-- no more bytes are taken of a text: those that are read, and one read more
abbrev pub most_taken : ℕ
most_taken = 2 ^ 30 + 2 ^ 16

-- a prefix of the known bytes was taken, of so many bytes at most, and the rest is left
abbrev pub TakesText : Option (List ℕ) → Option (List ℕ) → Type 0
TakesText None new = ⊤
TakesText (Some old) None = ⊥
TakesText (Some old) (Some new) = (taken : List ℕ) × (old ≡ taken ++ new) × (length taken ≤ most_taken)

-- P is true of a text that is the name's, where that is known
abbrev pub OnText : List ℕ → Holdings → (List ℕ → Type 0) → Type 0
OnText name holds P = (text : List ℕ) × IfSome (holds name) (λ t. t ≡ text) × P text

-- A run of a script: how much is written, its name, and its limits.
pub record ScriptRun : Type 0 where
  -- how much is written
  pub mode : Mode
  -- the script's name
  pub name : List ℕ
  -- what each search of a check may spend
  pub limits : Limits

-- a run of this script, by what it is asked for
abbrev pub run_meant : CodeMode → List ℕ → CodeLimits → ScriptRun
run_meant mode name limits = record { mode = mode_meant mode; name = name; limits = limits_meant limits }

-- a run with these limits that begins with a sink
abbrev pub run_start : CodeLimits → CodeMode → SinkView → RunStart
run_start limits mode sink = record { limits = limits_meant limits; mode = mode_meant mode; sink = sink }

-- P is true of exactly the responses to the commands that these bytes of a text hold, and what their answers say is so.
pub record IsAnsweredUpTo (limits : Limits) (mode : Mode) (read : List ℕ) (P : List ℕ → Type 0) : Type 0 where
  -- the commands
  pub commands : Trees
  -- the bytes hold them, and no other
  pub held : HoldTrees read commands
  -- what they are answered
  pub answers : List Answered
  -- each of them is
  pub runs : Runs limits first_state commands answers
  -- none ends the script
  pub goes_on : list_any (λ (a : Answered). is_end a.response) answers ≡ false
  -- what the answers say is so
  pub says : AnswersSay limits read answers
  -- P is true of their responses
  pub responses : P (answers_text mode read answers)

-- so it is of some bytes that a text begins with
abbrev pub OnRead : Limits → Mode → List ℕ → (List ℕ → Type 0) → Type 0
OnRead limits mode text P =
    (read : List ℕ) × (rest : List ℕ) × (text ≡ read ++ rest) × IsAnsweredUpTo limits mode read P

-- how the run of a script ends, by its status: a transcript of its text was written; or what is to be written for the
-- commands that were run, where memory ran out; or for those that were read, where the shelf failed; or a prefix of
-- that, where the sink failed and had no room for all of it; where no text was begun, nothing was. What the answers say
-- is so: the limits of a run have the limit on terms under which proofs are checked
abbrev pub ScriptMeans : Status → ScriptRun → Holdings → SinkView → SinkView → Type 0
ScriptMeans Done r holds old new =
    OnText r.name holds (λ text. OnTranscript r.limits r.mode text false (λ all. Delivered all old new))
ScriptMeans Refused r holds old new =
    OnText r.name holds (λ text. OnTranscript r.limits r.mode text true (λ all. Delivered all old new))
ScriptMeans Words r holds old new = ⊥
ScriptMeans Memory r holds old new =
    OnText r.name holds (λ text. OnBegun r.limits r.mode text (λ begun. Delivered begun old new)) ⊎ (new ≡ old)
ScriptMeans ReadFault r holds old new =
    OnText r.name holds (λ text. OnRead r.limits r.mode text (λ begun. Delivered begun old new)) ⊎ (new ≡ old)
ScriptMeans WriteFault r holds old new =
    OnText r.name holds (λ text. OnBegun r.limits r.mode text (λ begun. NotSent begun old new))

-- where a read fails: the text was not begun, and nothing was written; or some bytes were read of what the name holds,
-- and the commands in them are answered
abbrev pub ReadsSoFar : ScriptRun → (held before left : Option (List ℕ)) → SinkView → SinkView → Type 0
ReadsSoFar r held before left old new = (Keeps before left × (new ≡ old))
    ⊎ ((read : List ℕ) × Consumes held left read
    × IsAnsweredUpTo r.limits r.mode read (λ begun. Delivered begun old new))

-- how the run of a text ends that was begun, by what was left of it and what is
abbrev pub EndsReading : RunStart → Status → (before left : Option (List ℕ)) → SinkView → Type 0
EndsReading b ReadFault before left now =
    (read : List ℕ) × Consumes before left read
    × IsAnsweredUpTo b.limits b.mode read (λ begun. Delivered begun b.sink now)
EndsReading b status before left now =
    (text : List ℕ) × IfSome before (λ t. t ≡ text) × EndsText b.limits b.mode text status b.sink now
