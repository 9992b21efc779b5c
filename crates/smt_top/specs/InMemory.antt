-- A run from memory to memory.
use Rattle.std.specs.Prelude.{◌≡◌, ℕ, ◌<◌, ◌≤◌, true, false, List, [], ◌++◌, length, take, Option, Some, None, ◌⊎◌}
use Rattle.world_io.specs.Memory.{Text, text_named, SinkState}
use Rattle.script_run.specs.declared.status.Status.{Status}
use Rattle.script_run.specs.declared.status.Status.TheVariants.{Done, Refused, Words, Memory, ReadFault, WriteFault}
use Rattle.spec_sessions.specs.Statements.{OnTranscript, OnBegun}
use Rattle.script_run.specs.Scripts.{ScriptRun, OnRead}
use Rattle.judge_run.specs.Judgings.{JudgedTexts, Accepts, Refuses, IsVerdictLine, valid, longest_line}
use Rattle.judge_run.specs.Runs.{JudgedNames, judged_texts}
use Rattle.smt_top.specs.Arguments.{Asked, runs, judges, generates, limits_by}
use Rattle.smt_top.specs.Output.{usage}
use Rattle.smt_top.specs.Generated.{IsLineOf}

-- both names have texts, and P is true of these, judged as they are to be
abbrev pub OnNamed : JudgedNames → List Text → (JudgedTexts → Type 0) → Type 0
OnNamed n texts P =
    (script : List ℕ) × (text : List ℕ) × (text_named texts n.script ≡ Some script)
    × (text_named texts n.text ≡ Some text) × P (judged_texts n script text)

-- the bytes were written
abbrev pub WritesBytes : SinkState → SinkState → List ℕ → Type 0
WritesBytes old new bytes = new.written ≡ old.written ++ bytes

-- a sink of which no write is to fail has no room for so many bytes
abbrev pub LacksRoom : SinkState → ℕ → Type 0
LacksRoom sink n = sink.failing ≡ [] → 0 < sink.most → sink.room < n

-- a prefix of the bytes was written, and there was no room for all of them
abbrev pub GrowsByPrefix : SinkState → SinkState → List ℕ → Type 0
GrowsByPrefix old new bytes = ((n : ℕ) × (n ≤ length bytes) × (new.written ≡ old.written ++ take n bytes))
    × LacksRoom old (length bytes)

-- how a run that judges a text ends, by its status
abbrev pub JudgeEndsInMemory : Status → JudgedNames → List Text → SinkState → SinkState → Type 0
JudgeEndsInMemory Done n texts old new = OnNamed n texts (λ t. Accepts t × WritesBytes old new valid)
JudgeEndsInMemory Refused n texts old new =
    OnNamed n texts (λ t. (line : List ℕ) × Refuses t line × WritesBytes old new line)
JudgeEndsInMemory Words n texts old new = ⊥
JudgeEndsInMemory Memory n texts old new = new.written ≡ old.written
JudgeEndsInMemory ReadFault n texts old new = new.written ≡ old.written
JudgeEndsInMemory WriteFault n texts old new =
    OnNamed n texts (λ t. (line : List ℕ) × IsVerdictLine t line × GrowsByPrefix old new line)
    × LacksRoom old longest_line

-- the name has a text, and P is true of it
abbrev pub OnScript : List ℕ → List Text → (List ℕ → Type 0) → Type 0
OnScript name texts P = (text : List ℕ) × (text_named texts name ≡ Some text) × P text

-- how the run of a script ends, by its status
abbrev pub ScriptEndsInMemory : Status → ScriptRun → List Text → SinkState → SinkState → Type 0
ScriptEndsInMemory Done r texts old new =
    OnScript r.name texts (λ text. OnTranscript r.limits r.mode text false (WritesBytes old new))
ScriptEndsInMemory Refused r texts old new =
    OnScript r.name texts (λ text. OnTranscript r.limits r.mode text true (WritesBytes old new))
ScriptEndsInMemory Words r texts old new = ⊥
ScriptEndsInMemory Memory r texts old new =
    OnScript r.name texts (λ text. OnBegun r.limits r.mode text (WritesBytes old new)) ⊎ (new.written ≡ old.written)
ScriptEndsInMemory ReadFault r texts old new =
    OnScript r.name texts (λ text. OnRead r.limits r.mode text (WritesBytes old new)) ⊎ (new.written ≡ old.written)
ScriptEndsInMemory WriteFault r texts old new =
    OnScript r.name texts (λ text. OnBegun r.limits r.mode text (GrowsByPrefix old new))

-- how a run whose arguments are not accepted ends, by its status
abbrev pub UsageEndsInMemory : Status → SinkState → SinkState → Type 0
UsageEndsInMemory Words old new = WritesBytes old new usage
UsageEndsInMemory Memory old new = new.written ≡ old.written
UsageEndsInMemory WriteFault old new = GrowsByPrefix old new usage × LacksRoom old longest_line
UsageEndsInMemory _ old new = ⊥

-- how a run of a script that is made ends, by its status
abbrev pub GenEndsInMemory : Status → ℕ → SinkState → SinkState → Type 0
GenEndsInMemory Done n old new = (line : List ℕ) × IsLineOf n line × WritesBytes old new line
GenEndsInMemory Memory n old new = new.written ≡ old.written
GenEndsInMemory WriteFault n old new = (line : List ℕ) × IsLineOf n line × GrowsByPrefix old new line
GenEndsInMemory _ n old new = ⊥

-- how a run ends, by what its arguments ask for and its status
abbrev pub EndsInMemory : Status → Option Asked → List Text → SinkState → SinkState → Type 0
EndsInMemory status None texts old new = UsageEndsInMemory status old new
EndsInMemory status (Some (judges n)) texts old new = JudgeEndsInMemory status n texts old new
EndsInMemory status (Some (generates n)) texts old new = GenEndsInMemory status n old new
EndsInMemory status (Some (runs mode name conflicts)) texts old new =
    ScriptEndsInMemory status (record { mode = mode; name = name; limits = limits_by conflicts }) texts old new
