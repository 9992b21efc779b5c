-- The reason, where it is asked for.
use Rattle.std.proofs.Common.{Some, sym, ap, ◌∙◌, subst}
use Rattle.spec_sessions.specs.Replies.{info_reply}
use Rattle.smt_question.specs.Infos.{info_meant}
use Rattle.smt_reply.specs.Replies.{in_context, Replies}
use Rattle.smt_reply.proofs.replies.info_reply.Goals as goal

pub returns-in-ReasonUnknown : goal.returns-in-ReasonUnknown
returns-in-ReasonUnknown c limit t budget s held kept =
    let named = ap (λ j. Some (info_meant j)) (sym c.in-ReasonUnknown.is) ∙ c.in-Some.ensures in
    subst (λ o. Replies (info_reply c.args.at s o) (in_context t c.args.stack.now c.args.answer.now) c.reason_reply.result) named (c.reason_reply.ensures t budget c.args.stack.now s kept)
