-- What each question is answered.
use Rattle.std.proofs.Common.{sym, ap, subst}
use Rattle.smt_question.specs.Questions.{question_view}
use Rattle.spec_sessions.specs.Replies.{option_reply, reply_to}
use Rattle.spec_commands.specs.Stack.{key_named}
use Rattle.spec_sessions.specs.Questions.{Question}
use Rattle.smt_reply.specs.Replies.{in_context, Replies}
use Rattle.smt_reply.proofs.replies.reply_to.Goals as goal

pub returns-in-Model-clause-replies : goal.returns-in-Model-clause-replies
returns-in-Model-clause-replies c terms budget s held kept asked =
    let x = in_context c.args.table.now c.args.stack.now c.args.answer.now in
    subst (λ (q : Question). Replies (reply_to terms c.args.at s q) x c.model_reply.result) (sym (ap question_view c.in-Model.is)) (c.model_reply.ensures terms c.args.table.now budget s held.stack kept)

pub returns-in-Proof-clause-replies : goal.returns-in-Proof-clause-replies
returns-in-Proof-clause-replies c terms budget s held kept asked =
    let x = in_context c.args.table.now c.args.stack.now c.args.answer.now in
    subst (λ (q : Question). Replies (reply_to terms c.args.at s q) x c.proof_reply.result) (sym (ap question_view c.in-Proof.is)) (c.proof_reply.ensures terms c.args.table.now budget s held.stack kept)

pub returns-in-Assertions-clause-replies : goal.returns-in-Assertions-clause-replies
returns-in-Assertions-clause-replies c terms budget s held kept asked =
    let x = in_context c.args.table.now c.args.stack.now c.args.answer.now in
    subst (λ (q : Question). Replies (reply_to terms c.args.at s q) x c.assertions_reply.result) (sym (ap question_view c.in-Assertions.is)) (c.assertions_reply.ensures terms c.args.table.now c.args.answer.now s held.stack)

pub returns-in-Values-clause-replies : goal.returns-in-Values-clause-replies
returns-in-Values-clause-replies c terms budget s held kept asked =
    let x = in_context c.args.table.now c.args.stack.now c.args.answer.now in
    subst (λ (q : Question). Replies (reply_to terms c.args.at s q) x c.values_reply.result) (sym (ap question_view c.in-Values.is)) (c.values_reply.ensures.replies terms budget s held.stack kept)

pub returns-in-Info-clause-replies : goal.returns-in-Info-clause-replies
returns-in-Info-clause-replies c terms budget s held kept asked =
    let x = in_context c.args.table.now c.args.stack.now c.args.answer.now in
    subst (λ (q : Question). Replies (reply_to terms c.args.at s q) x c.info_reply.result) (sym (ap question_view c.in-Info.is)) (c.info_reply.ensures terms c.args.table.now budget s held.stack kept)

pub returns-in-Option-clause-replies : goal.returns-in-Option-clause-replies
returns-in-Option-clause-replies c terms budget s held kept asked =
    let x = in_context c.args.table.now c.args.stack.now c.args.answer.now in
    (option_reply s.stack.options (key_named c.in-Option.name.now), ap (λ q. reply_to terms c.args.at s (question_view q)) c.in-Option.is, c.option_reply.ensures x s.stack.options held.stack.options)

pub returns-in-UnsatCore-clause-replies : goal.returns-in-UnsatCore-clause-replies
returns-in-UnsatCore-clause-replies c terms budget s held kept asked =
    let x = in_context c.args.table.now c.args.stack.now c.args.answer.now in
    subst (λ (q : Question). Replies (reply_to terms c.args.at s q) x c.core_reply.result) (sym (ap question_view c.in-UnsatCore.is)) (c.core_reply.ensures terms budget c.args.assumed.now s held.stack kept asked)

pub returns-in-UnsatAssumptions-clause-replies : goal.returns-in-UnsatAssumptions-clause-replies
returns-in-UnsatAssumptions-clause-replies c terms budget s held kept asked =
    let x = in_context c.args.table.now c.args.stack.now c.args.answer.now in
    subst (λ (q : Question). Replies (reply_to terms c.args.at s q) x c.assumptions_reply.result) (sym (ap question_view c.in-UnsatAssumptions.is)) (c.assumptions_reply.ensures terms budget s held.stack kept asked)
