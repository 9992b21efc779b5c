-- The response is passed on.
use Rattle.spec_sessions.specs.Responses.{response_text}
use Rattle.smt_session.specs.Sessions.{mode_meant}
use Rattle.smt_session.proofs.Delivering.{delivered}
use Rattle.smt_session.proofs.responses.send_response.Goals as goal

pub returns : goal.returns
returns g c = λ text a is. delivered (response_text (mode_meant c.args.mode) text a) c.flush.result _ _ _ (c.in_ok-write_response.ensures text a is) c.flush.ensures
