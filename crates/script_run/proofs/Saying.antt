-- From what was written for a text to what its answers say.
use Rattle.std.proofs.Common.{ℕ, Bool, List}
use Rattle.world_io.specs.Writing.{SinkView}
use Rattle.spec_sessions.specs.Evidence.{Limits}
use Rattle.spec_sessions.specs.Responses.{Mode}
use Rattle.spec_sessions.specs.Transcripts.{IsTranscript, IsBegun, checks_in}
use Rattle.spec_sessions.specs.Meaning.{AllSay}
use Rattle.script_run.specs.declared.status.Status.{Status}
use Rattle.script_run.specs.declared.status.Status.TheVariants.{Done, Refused, Words, Memory, ReadFault, WriteFault}
use Rattle.script_run.specs.Runs.{RunsText, EndsText}

-- that what the answers of a transcript say is so, and of one that was begun
abbrev pub WholeSays : Type 0
WholeSays = (limits : Limits) (mode : Mode) (text out : List ℕ) (refused : Bool) (t : IsTranscript limits mode text out refused) → AllSay limits text 0 (checks_in t.answers)

abbrev pub BegunSays : Type 0
BegunSays = (limits : Limits) (mode : Mode) (text out : List ℕ) (t : IsBegun limits mode text out) → AllSay limits text 0 (checks_in t.answers)

-- what a transcript's answers say is added to what was written
pub says_so : WholeSays → BegunSays → (limits : Limits) (mode : Mode) (text : List ℕ) (status : Status) (old new : SinkView) → RunsText limits mode text status old new → EndsText limits mode text status old new
says_so whole begun limits mode text Done old new (all, t, w) = (all, t, whole limits mode text all _ t, w)
says_so whole begun limits mode text Refused old new (all, t, w) = (all, t, whole limits mode text all _ t, w)
says_so whole begun limits mode text Words old new r = absurd r
says_so whole begun limits mode text Memory old new (all, t, w) = (all, t, begun limits mode text all t, w)
says_so whole begun limits mode text ReadFault old new r = absurd r
says_so whole begun limits mode text WriteFault old new (all, t, w) = (all, t, begun limits mode text all t, w)
