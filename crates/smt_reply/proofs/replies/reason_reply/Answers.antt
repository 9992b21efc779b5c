-- The reason of the last check, where it found one.
use Rattle.std.proofs.Common.{sym, ◌∙◌, Some}
use Rattle.spec_text.specs.declared.Fault.TheVariants.{WrongMode}
use Rattle.spec_sessions.specs.Replies.{info_reply, unknown_info}
use Rattle.smt_reply.proofs.Asked.{refuses, no_reason, reason_told}
use Rattle.smt_reply.proofs.replies.reason_reply.Goals as goal

pub returns-then-not-found_reason : goal.returns-then-not-found_reason
returns-then-not-found_reason c t budget x s kept =
    let none = sym (c.found_reason.ensures t budget s.answer kept) ∙ c.if-not-found_reason.true in
    refuses (info_reply c.args.at s (Some unknown_info)) c.refused.result c.args.at WrongMode c.refused.ensures (no_reason 0 c.args.at s none)

pub returns : goal.returns
returns c t budget x s kept =
    let some = sym (c.found_reason.ensures t budget s.answer kept) ∙ c.if-not-found_reason.false in
    reason_told 0 c.args.at s t budget x c.args.answer.now kept some
