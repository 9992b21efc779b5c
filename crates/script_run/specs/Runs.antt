-- How the run of a script's text ends.
use Rattle.std.specs.Prelude.{◌≡◌, ℕ, Bool, true, false, List, [], Ok}
use Rattle.world_io.specs.Writing.{SinkView, Sent, NotSent}
use Rattle.spec_text.specs.Places.{name_of}
use Rattle.spec_models.specs.Replies.{error_text}
use Rattle.spec_sessions.specs.Evidence.{Limits}
use Rattle.spec_sessions.specs.Responses.{Mode}
use Rattle.spec_sessions.specs.Transcripts.{IsTranscript, IsBegun}
use Rattle.spec_sessions.specs.Statements.{OnTranscript, OnBegun}
use Rattle.smt_lexer.specs.declared.Refusal.{Refusal}
use Rattle.smt_session.specs.declared.session.After.{After}
use Rattle.smt_session.specs.declared.session.After.TheVariants as afters
use Rattle.script_run.specs.declared.status.Status.{Status}
use Rattle.script_run.specs.declared.status.Status.TheVariants as statuses
use Rattle.smt_session.specs.Sessions.{Delivers}

-- the number that the program ends with
abbrev pub code_of : Status → ℕ
code_of statuses.Done = 0
code_of statuses.Refused = 1
code_of statuses.Words = 2
code_of statuses.Memory = 3
code_of statuses.ReadFault = 4
code_of statuses.WriteFault = 5

-- all of the text was written, and nothing waits in a buffer, if nothing did before
pub record Delivered (text : List ℕ) (old new : SinkView) : Type 0 where
  -- it was written
  pub sent : Sent text old new
  -- nothing of it waits
  pub passed_on : old.pending ≡ [] → new.pending ≡ []

-- a whole transcript of the text was written; the last says whether something was refused
abbrev pub HasRun : Limits → Mode → List ℕ → Bool → SinkView → SinkView → Type 0
HasRun limits mode text refused old new = (all : List ℕ) × IsTranscript limits mode text all refused
    × Delivered all old new

-- what is to be written for the commands that were run was written
abbrev pub HasStopped : Limits → Mode → List ℕ → SinkView → SinkView → Type 0
HasStopped limits mode text old new = (begun : List ℕ) × IsBegun limits mode text begun × Delivered begun old new

-- a prefix of it was written, for which the sink had no room as a whole: the sink failed
abbrev pub HasBegun : Limits → Mode → List ℕ → SinkView → SinkView → Type 0
HasBegun limits mode text old new = (begun : List ℕ) × IsBegun limits mode text begun × NotSent begun old new

-- the same without what the answers say
abbrev pub RunsText : Limits → Mode → List ℕ → Status → SinkView → SinkView → Type 0
RunsText limits mode text statuses.Done old new = HasRun limits mode text false old new
RunsText limits mode text statuses.Refused old new = HasRun limits mode text true old new
RunsText limits mode text statuses.Memory old new = HasStopped limits mode text old new
RunsText limits mode text statuses.WriteFault old new = HasBegun limits mode text old new
RunsText limits mode text _ old new = ⊥

-- how the run of a text ends, by its status: a transcript was written; or what is to be written for the commands that
-- were run, where memory
-- ran out; or a prefix of that, where the sink failed and had no room for it
abbrev pub EndsText : Limits → Mode → List ℕ → Status → SinkView → SinkView → Type 0
EndsText limits mode text statuses.Done old new = OnTranscript limits mode text false (λ all. Delivered all old new)
EndsText limits mode text statuses.Refused old new = OnTranscript limits mode text true (λ all. Delivered all old new)
EndsText limits mode text statuses.Memory old new = OnBegun limits mode text (λ begun. Delivered begun old new)
EndsText limits mode text statuses.WriteFault old new = OnBegun limits mode text (λ begun. NotSent begun old new)
EndsText limits mode text _ old new = ⊥

-- a command ended its script
abbrev pub is_last : After → Bool
is_last afters.Ended = true
is_last _ = false

-- a command was refused
abbrev pub is_refusal : After → Bool
is_refusal afters.Refused = true
is_refusal _ = false

-- the status of a run that came to an end
abbrev pub ended_by : Bool → Status
ended_by true = statuses.Refused
ended_by false = statuses.Done

-- the line of a refusal
abbrev pub line_of_refusal : Refusal → List ℕ
line_of_refusal r = error_text r.place.line r.place.col (name_of r.fault)

-- the line of a refusal was written, or a prefix of it
abbrev pub Ended : Refusal → Status → SinkView → SinkView → Type 0
Ended r statuses.Refused old new = Delivers (line_of_refusal r) (Ok tt) old new
Ended r statuses.WriteFault old new = NotSent (line_of_refusal r) old new
Ended r _ old new = ⊥
