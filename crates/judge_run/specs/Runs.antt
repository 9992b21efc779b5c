-- How a run ends that judges a text.
use Rattle.std.specs.Prelude.{◌≡◌, ◌⊎◌, ◌≤◌, ℕ, List, length, Option, Ok, IsSome, IfSome}
use Rattle.world_io.specs.Writing.{SinkView, HasRoom, NotSent}
use Rattle.script_run.specs.declared.status.Status.{Status}
use Rattle.script_run.specs.declared.status.Status.TheVariants.{Done, Refused, Words, Memory, ReadFault, WriteFault}
use Rattle.script_run.specs.Scripts.{Holdings, TakesText}
use Rattle.smt_session.specs.Sessions.{Delivers}
use Rattle.judge_run.specs.Judgings.{Judging, JudgedTexts, Accepts, Refuses, IsVerdictLine, valid, longest_line}

-- The names of a script and of a text, and the check that is meant.
pub record JudgedNames : Type 0 where
  -- what the text is judged as
  pub judging : Judging
  -- the script's name
  pub script : List ℕ
  -- which of the script's checks is meant, from 1
  pub at : ℕ
  -- the text's name
  pub text : List ℕ

-- these two texts, judged as the names are to be
abbrev pub judged_texts : JudgedNames → (script text : List ℕ) → JudgedTexts
judged_texts n script text = record { judging = n.judging; script = script; at = n.at; text = text }

-- P is true of a script and a text that are those of the two names, where these are known
abbrev pub OnTexts : JudgedNames → Holdings → (JudgedTexts → Type 0) → Type 0
OnTexts n holds P =
    (script : List ℕ) × (text : List ℕ) × IfSome (holds n.script) (λ t. t ≡ script)
    × IfSome (holds n.text) (λ t. t ≡ text) × P (judged_texts n script text)

-- both names hold a text
abbrev pub BothHold : JudgedNames → Holdings → Type 0
BothHold n holds = IsSome (holds n.script) × IsSome (holds n.text)

-- the text was read last: what is left on the shelf is what is left of it, where that is known
abbrev pub TextIsLast : JudgedNames → Holdings → Option (List ℕ) → Type 0
TextIsLast n holds left = TakesText (holds n.text) left

-- The verdict on the text is a fault, and its line was written.
pub record IsRefused (t : JudgedTexts) (old new : SinkView) : Type 0 where
  -- the line
  pub line : List ℕ
  -- it is that of the verdict
  pub refuses : Refuses t line
  -- it is not too long
  pub short : length line ≤ longest_line
  -- it was written, and nothing waits
  pub written : Delivers line (Ok tt) old new

-- what was written of the line of a verdict, by the status: all of it, or where the sink failed a prefix; where memory
-- ran out there is none. The sink fails only where it has no room for the longest line
abbrev pub Reports : Status → JudgedTexts → SinkView → SinkView → Type 0
Reports Done t old new = Accepts t × Delivers valid (Ok tt) old new
Reports Refused t old new = IsRefused t old new
Reports Memory t old new = new ≡ old
Reports WriteFault t old new = ((line : List ℕ) × IsVerdictLine t line × NotSent line old new)
    × (HasRoom old longest_line → ⊥)
Reports _ t old new = ⊥

-- how a run that judges a text ends, by its status: the verdict on the texts of both names was written; or nothing was,
-- where memory ran out or a text could not be read
abbrev pub JudgeMeans : Status → JudgedNames → Holdings → SinkView → SinkView → Type 0
JudgeMeans Words n holds old new = ⊥
JudgeMeans Done n holds old new = OnTexts n holds (λ t. Reports Done t old new)
JudgeMeans Refused n holds old new = OnTexts n holds (λ t. Reports Refused t old new)
JudgeMeans WriteFault n holds old new = OnTexts n holds (λ t. Reports WriteFault t old new)
JudgeMeans Memory n holds old new = new ≡ old
JudgeMeans ReadFault n holds old new = new ≡ old

-- the run ended, and nothing was written: the shelf failed, or memory ran out
abbrev pub IsUnread : Status → SinkView → SinkView → Type 0
IsUnread status old new = ((status ≡ ReadFault) ⊎ (status ≡ Memory)) × (new ≡ old)
