-- What the parts of a run that judges promise.
use Rattle.std.specs.Prelude.{◌≡◌, ℕ, List, ⊤}
use Rattle.spec_text.specs.Readings.{prefix}
use Rattle.spec_proofs.specs.Faults.{fault_name}
use Rattle.spec_models.specs.Replies.{error_text}
use Rattle.spec_model_files.specs.Faults.{kind_name}
use Rattle.judge_run.specs.declared.request.Subject.{Subject}
use Rattle.judge_run.specs.declared.request.Subject.TheVariants as subjects
use Rattle.judge_run.specs.declared.request.JudgeRequest.{JudgeRequest}
use Rattle.judge_run.specs.declared.verdict.FaultKind.{FaultKind}
use Rattle.judge_run.specs.declared.verdict.FaultKind.TheVariants as kinds
use Rattle.judge_run.specs.declared.verdict.Fault.{Fault}
use Rattle.judge_run.specs.declared.verdict.Verdict.{Verdict}
use Rattle.judge_run.specs.declared.verdict.Verdict.TheVariants as verdicts
use Rattle.judge_run.specs.Judgings.{Judging, a_proof, a_model, JudgedTexts, Accepts, Refuses}
use Rattle.judge_run.specs.Runs.{JudgedNames}

-- what a text is judged as
abbrev pub judging_meant : Subject → Judging
judging_meant subjects.Proof = a_proof
judging_meant subjects.Model = a_model

-- the texts that a request names
abbrev pub names_of : JudgeRequest → JudgedNames
names_of r = record {
  judging = judging_meant r.subject;
  script = r.names.script.now;
  at = r.at;
  text = r.names.text.now;
}

-- the name of a fault
abbrev pub kind_named : FaultKind → List ℕ
kind_named (kinds.Proof k) = fault_name k
kind_named (kinds.Model k) = kind_name k

-- the line of a fault
abbrev pub fault_line : Fault → List ℕ
fault_line f = error_text f.place.line f.place.col (kind_named f.kind)

-- what was judged of a text; out of memory is free
abbrev pub IsJudged : JudgedTexts → Verdict → Type 0
IsJudged t verdicts.Accepted = Accepts t
IsJudged t (verdicts.Faulty f) = Refuses t (fault_line f)
IsJudged t verdicts.Memory = ⊤

-- so it is of all texts that begin with these bytes, as far as they are read
abbrev pub JudgesPrefixes : JudgedTexts → Verdict → Type 0
JudgesPrefixes p v = (script text : List ℕ) → p.script ≡ prefix script → p.text ≡ prefix text
    → IsJudged (record { judging = p.judging; script = script; at = p.at; text = text }) v
