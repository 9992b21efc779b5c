-- The line of the answer, and what shows it.
use Rattle.world_io.proofs.Sending.{sends_failed, first_fails, first_then}
use Rattle.spec_sessions.specs.Responses.{answer_text, shown_text, evidence_text}
use Rattle.smt_session.specs.Sessions.{mode_meant}
use Rattle.smt_session.proofs.responses.send_found.Goals as goal

pub returns-in_err-send_answer : goal.returns-in_err-send_answer
returns-in_err-send_answer g c budget x same e =
    sends_failed _ _ _ _ c.from_residual.ensures.0 (first_fails (answer_text x.found) (shown_text (mode_meant c.args.mode) x) _ _ (c.in_err-send_answer.ensures c.args.table.now budget x.found e))

pub returns-in-Certify : goal.returns-in-Certify
returns-in-Certify g c = rw c.in-Certify.is (λ budget x same e.
    first_then (answer_text x.found) (evidence_text x) _ _ _ _
    (c.in_ok-send_answer.ensures c.args.table.now budget x.found e)
    (c.send_evidence.ensures budget x same e))
