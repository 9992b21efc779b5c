-- The line is passed on.
use Rattle.std.proofs.Common.{◌≡◌, ◌∙◌, subst}
use Rattle.spec_text.specs.Places.{name_of}
use Rattle.spec_models.specs.Replies.{error_text}
use Rattle.smt_session.specs.Sessions.{Delivers}
use Rattle.smt_session.proofs.Delivering.{delivered}
use Rattle.script_run.proofs.answering.send_refusal.Goals as goal

pub returns : goal.returns
returns g c =
    let p = c.args.refusal.place in
    let name : c.as_bytes.result.now ≡ name_of c.args.refusal.fault = c.as_bytes.ensures.value ∙ c.name.ensures in
    subst (λ n. Delivers (error_text p.line p.col n) c.flush.result (g.K.Sink.state c.args.out.now) (g.K.Sink.state c.flush.new.self)) name
    (delivered (error_text p.line p.col c.as_bytes.result.now) c.flush.result _ _ _ c.in_ok-error.ensures c.flush.ensures)
