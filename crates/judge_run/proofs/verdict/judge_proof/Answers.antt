-- The checker's verdict on two prefixes is that on the texts.
use Rattle.judge_run.proofs.Verdicts.{proof_accepted, proof_refused}
use Rattle.judge_run.proofs.verdict.judge_proof.Goals as goal

pub returns-in-Ok : goal.returns-in-Ok
returns-in-Ok c = λ script proof s p.
    proof_accepted c.args.at c.args.script.now c.args.proof.now script proof s p c.verdicts_need_a_prefix_alone.ensures c.accepted_proofs_have_no_fault.ensures c.acceptance_is_sound.ensures c.in-Ok.ensures.verdict

pub returns-in-Err-Fault : goal.returns-in-Err-Fault
returns-in-Err-Fault c = λ script proof s p.
    let h = rw c.in-Err-Fault.field-0-is at c.in-Err-Fault.ensures.verdict in
    proof_refused c.args.at c.args.script.now c.args.proof.now script proof s p c.verdicts_need_a_prefix_alone.ensures c.in-Err-Fault.fault.kind c.in-Err-Fault.fault.place h.0 h.1
