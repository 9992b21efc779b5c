-- What the text is judged as, by cases.
use Rattle.std.proofs.Common.{◌∙◌, sym, subst}
use Rattle.judge_run.specs.Calls.{judging_meant, IsJudged}
use Rattle.judge_run.proofs.verdict.judge.Goals as goal

pub returns-in-Proof : goal.returns-in-Proof
returns-in-Proof c = λ script text s t.
    subst (λ subject. IsJudged (record { judging = judging_meant subject; script = script; at = c.args.at; text = text }) c.judge_proof.result) (sym c.in-Proof.is)
    (c.judge_proof.ensures script text (c.as_slice-script.ensures ∙ s) (c.as_slice-judged.ensures ∙ t))

pub returns-in-Model : goal.returns-in-Model
returns-in-Model c = λ script text s t.
    subst (λ subject. IsJudged (record { judging = judging_meant subject; script = script; at = c.args.at; text = text }) c.judge_model.result) (sym c.in-Model.is)
    (c.judge_model.ensures script text (c.as_slice-script.ensures ∙ s) (c.as_slice-judged.ensures ∙ t))
