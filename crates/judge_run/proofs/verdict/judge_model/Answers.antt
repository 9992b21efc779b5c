-- The verdict on two prefixes is that on the texts.
use Rattle.judge_run.proofs.Verdicts.{model_accepted, model_refused}
use Rattle.judge_run.proofs.verdict.judge_model.Goals as goal

pub returns-in-Ok : goal.returns-in-Ok
returns-in-Ok c = λ script model s m.
    model_accepted c.args.at c.args.script.now c.args.model.now script model s m c.model_verdicts_need_a_prefix_alone.ensures.verdict c.valid_models_make_true.ensures.model c.valid_models_make_true.ensures.no_proof c.in-Ok.ensures.verdict

pub returns-in-Err-Fault : goal.returns-in-Err-Fault
returns-in-Err-Fault c = λ script model s m.
    let h = rw c.in-Err-Fault.field-0-is at c.in-Err-Fault.ensures.verdict in
    model_refused c.args.at c.args.script.now c.args.model.now script model s m c.model_verdicts_need_a_prefix_alone.ensures.verdict c.in-Err-Fault.fault.kind c.in-Err-Fault.fault.place h.0 h.1
