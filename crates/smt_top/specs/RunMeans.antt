-- How a run ends: what it was given, what it judged, and what it wrote.
use Rattle.std.specs.Prelude.{◌≡◌, ℕ, Bool, true, false, List, Option, Some, None, Ok, IsSome, ⊤}
use Rattle.world_io.specs.Writing.{SinkView, HasRoom, NotSent}
use Rattle.world_io.specs.Buffering.{sink_of, pending_in, buffered}
use Rattle.world_io.specs.declared.buffered_sink.BufferedSink.{BufferedSink}
use Rattle.script_run.specs.declared.status.Status.{Status}
use Rattle.script_run.specs.declared.status.Status.TheVariants.{Done, Refused, Words, Memory, WriteFault}
use Rattle.smt_session.specs.Sessions.{Delivers}
use Rattle.script_run.specs.Scripts.{Holdings, TakesText, ScriptMeans, ReadsSoFar}
use Rattle.judge_run.specs.Judgings.{longest_line}
use Rattle.judge_run.specs.Runs.{JudgeMeans, BothHold, TextIsLast}
use Rattle.smt_top.specs.Arguments.{Asked, runs, judges, generates, limits_by}
use Rattle.smt_top.specs.Output.{usage}
use Rattle.smt_top.specs.Generated.{GenMeans}

-- a sink with a buffer before it, by how the sink is seen
abbrev pub through : {K : Type 0} → (K → SinkView) → BufferedSink K → SinkView
through state b = buffered (state (sink_of b)) (pending_in b)

-- how a run ends of which the arguments are not accepted, by its status: the usage text was written, or a prefix of it,
-- where the sink failed; it fails only where it has no room for the longest line
abbrev pub UsageMeans : Status → SinkView → SinkView → Type 0
UsageMeans Words old new = Delivers usage (Ok tt) old new
UsageMeans Memory old new = new ≡ old
UsageMeans WriteFault old new = NotSent usage old new × (HasRoom old longest_line → ⊥)
UsageMeans _ old new = ⊥

-- all that was to be written was written
abbrev pub is_answered : Status → Bool
is_answered Done = true
is_answered Refused = true
is_answered Words = true
is_answered _ = false

-- how a run ends, by what its arguments ask for and its status
abbrev pub RunMeans : Status → Option Asked → Holdings → SinkView → SinkView → Type 0
RunMeans status None holds old new = UsageMeans status old new
RunMeans status (Some (judges n)) holds old new = JudgeMeans status n holds old new
RunMeans status (Some (generates n)) holds old new = GenMeans status n old new
RunMeans status (Some (runs mode name conflicts)) holds old new =
    ScriptMeans status (record { mode = mode; name = name; limits = limits_by conflicts }) holds old new

-- where a read fails: what was written is exactly the responses to the commands that were read; for a text to judge
-- nothing was; where a script is made none fails
abbrev pub AnswersSoFar : Option Asked → Holdings → (before left : Option (List ℕ)) → SinkView → SinkView → Type 0
AnswersSoFar None holds before left old new = ⊤
AnswersSoFar (Some (judges n)) holds before left old new = new ≡ old
AnswersSoFar (Some (generates n)) holds before left old new = ⊥
AnswersSoFar (Some (runs mode name conflicts)) holds before left old new =
    ReadsSoFar (record { mode = mode; name = name; limits = limits_by conflicts }) (holds name) before left old new

-- no text is asked for
abbrev pub AsksNoText : Option Asked → Type 0
AsksNoText None = ⊤
AsksNoText (Some (generates n)) = ⊤
AsksNoText (Some (judges n)) = ⊥
AsksNoText (Some (runs mode name conflicts)) = ⊥

-- the texts that are asked for are held
abbrev pub AreHeld : Option Asked → Holdings → Type 0
AreHeld None holds = ⊤
AreHeld (Some (judges n)) holds = BothHold n holds
AreHeld (Some (generates n)) holds = ⊤
AreHeld (Some (runs mode name conflicts)) holds = IsSome (holds name)

-- the text that was read last: what is left on the shelf is what is left of it, where that is known; none may be asked
-- for
abbrev pub LastIsRead : Option Asked → Holdings → Option (List ℕ) → Type 0
LastIsRead None holds left = ⊤
LastIsRead (Some (judges n)) holds left = TextIsLast n holds left
LastIsRead (Some (generates n)) holds left = ⊤
LastIsRead (Some (runs mode name conflicts)) holds left = TakesText (holds name) left
