-- From what was written for two texts to the end of a run.
use Rattle.std.proofs.Common.{◌≡◌, ℕ, List, IfSome}
use Rattle.world_io.specs.Writing.{SinkView}
use Rattle.script_run.specs.declared.status.Status.{Status}
use Rattle.script_run.specs.declared.status.Status.TheVariants.{Done, Refused, Words, Memory, ReadFault, WriteFault}
use Rattle.script_run.specs.Scripts.{Holdings}
use Rattle.judge_run.specs.Runs.{JudgedNames, judged_texts, Reports, JudgeMeans}

-- the texts are those that the names hold
pub ends_with : (status : Status) (n : JudgedNames) (holds : Holdings) (old new : SinkView) (script text : List ℕ) → IfSome (holds n.script) (λ t. t ≡ script) → IfSome (holds n.text) (λ t. t ≡ text)
    → Reports status (judged_texts n script text) old new → JudgeMeans status n holds old new
ends_with Done n holds old new script text s t r = (script, text, s, t, r)
ends_with Refused n holds old new script text s t r = (script, text, s, t, r)
ends_with Words n holds old new script text s t r = absurd r
ends_with Memory n holds old new script text s t r = r
ends_with ReadFault n holds old new script text s t r = absurd r
ends_with WriteFault n holds old new script text s t r = (script, text, s, t, r)
