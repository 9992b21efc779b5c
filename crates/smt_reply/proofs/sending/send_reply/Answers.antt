-- Why the last check was answered `unknown`.
use Rattle.std.proofs.Common.{subst}
use Rattle.smt_reply.specs.Replies.{in_context, IsReply}
use Rattle.smt_reply.proofs.sending.send_reply.Goals as goal

pub returns-in-Reason : goal.returns-in-Reason
returns-in-Reason g c r h =
    let x = in_context c.args.table.now c.args.stack.now c.args.answer.now in
    c.send_reason.ensures c.args.table.now r (subst (λ p. IsReply x p r) c.in-Reason.is h)
