-- What the command is answered was written, or a prefix of it.
use Rattle.std.proofs.Common.{inl, inr, subst, arith}
use Rattle.world_io.specs.Writing.{Sent, NotSent}
use Rattle.smt_sexpr.specs.Items.{text_of}
use Rattle.check_evidence.specs.Evidence.{limits_meant}
use Rattle.smt_session.specs.Sessions.{SessionView, IsSession, IsAnswered, written_for}
use Rattle.smt_session.proofs.Answering.{session_over, is_answered, is_response}
use Rattle.smt_session.proofs.session.Session.step.Goals as goal

pub returns-clause-stepped : goal.returns-clause-stepped
returns-clause-stepped g c = λ s h.
    let x = c.args.command.now in
    let r = c.in_ok-response.response in
    let i = c.self.inside in
    let old : SessionView = record { script = i.script; limits = i.limits; mode = i.mode } in
    let h' : IsSession old s = rw (← c.self.view_is) at h in
    let k = c.in_ok-response.ensures.takes s h' in
    let so = is_answered c.what_is_shown_is_so.ensures.at s x r old c.take.new.script k c.in_ok-response.ensures.budget c.in_ok-response.ensures.kept c.in_ok-response.ensures.asked in
    let of = is_response (limits_meant i.limits) s x r c.take.new.script k in
    let w = c.in-Err.ensures (text_of x) k.a of in (
      k.a,
      subst (λ (v : SessionView). IsAnswered s x v (session_over old c.take.new.script) k.a) c.self.view_is so,
      subst (λ (v : SessionView). NotSent (written_for v x k.a) (g.K.Sink.state c.args.out.now) (g.K.Sink.state c.send_response.new.out)) c.self.view_is w,
    )

pub returns-in-Ok-clause-stepped : goal.returns-in-Ok-clause-stepped
returns-in-Ok-clause-stepped g c = λ s h.
    let x = c.args.command.now in
    let r = c.in_ok-response.response in
    let i = c.self.inside in
    let old : SessionView = record { script = i.script; limits = i.limits; mode = i.mode } in
    let h' : IsSession old s = rw (← c.self.view_is) at h in
    let k = c.in_ok-response.ensures.takes s h' in
    let so = is_answered c.what_is_shown_is_so.ensures.at s x r old c.take.new.script k c.in_ok-response.ensures.budget c.in_ok-response.ensures.kept c.in_ok-response.ensures.asked in
    let of = is_response (limits_meant i.limits) s x r c.take.new.script k in
    let w = c.in-Ok.ensures (text_of x) k.a of in (
      k.a,
      subst (λ (v : SessionView). IsAnswered s x v (session_over old c.take.new.script) k.a) c.self.view_is so,
      c.after_of.ensures c.take.new.script (text_of x) k.a.response k.is,
      (subst (λ (v : SessionView). Sent (written_for v x k.a) (g.K.Sink.state c.args.out.now) (g.K.Sink.state c.send_response.new.out)) c.self.view_is w.0, w.1),
    )

pub send_response-requires : goal.send_response-requires
send_response-requires g c =
    let k = c.in_ok-response.ensures.takes c.self.invariant.0.0 c.self.invariant.0.1 in
    (text_of c.args.command.now, k.a.response, k.is)

pub invariant_of-self-2 : goal.invariant_of-self-2
invariant_of-self-2 g c =
    let k = c.in_ok-response.ensures.takes c.self.invariant.0.0 c.self.invariant.0.1 in
    ((k.a.state, k.represents), c.in_ok-response.ensures.limit c.self.invariant.1)

pub invariant_of-self-in-Ok : goal.invariant_of-self-in-Ok
invariant_of-self-in-Ok g c =
    let k = c.in_ok-response.ensures.takes c.self.invariant.0.0 c.self.invariant.0.1 in
    ((k.a.state, k.represents), c.in_ok-response.ensures.limit c.self.invariant.1)

pub returns-in-Ok-clause-count : goal.returns-in-Ok-clause-count
returns-in-Ok-clause-count g c =
    let x = c.args.command.now in
    let k = c.in_ok-response.ensures.takes c.self.invariant.0.0 c.self.invariant.0.1 in
    let of = is_response (limits_meant c.self.inside.limits) c.self.invariant.0.0 x c.in_ok-response.response c.take.new.script k in
    let w = c.in-Ok.ensures (text_of x) k.a of in
    omega (arith, w.0.count)

pub returns-clause-failed : goal.returns-clause-failed
returns-clause-failed g c =
    let x = c.args.command.now in
    let k = c.in_ok-response.ensures.takes c.self.invariant.0.0 c.self.invariant.0.1 in
    let of = is_response (limits_meant c.self.inside.limits) c.self.invariant.0.0 x c.in_ok-response.response c.take.new.script k in
    let w = c.in-Err.ensures (text_of x) k.a of in
    λ e. w.failed

pub returns-clause-count : goal.returns-clause-count
returns-clause-count g c =
    let x = c.args.command.now in
    let k = c.in_ok-response.ensures.takes c.self.invariant.0.0 c.self.invariant.0.1 in
    let of = is_response (limits_meant c.self.inside.limits) c.self.invariant.0.0 x c.in_ok-response.response c.take.new.script k in
    let w = c.in-Err.ensures (text_of x) k.a of in
    elim w.failed [ inl lt ↦ omega (arith, lt) | inr e ↦ omega (arith, e.0, e.1) ]
