-- The values on a line, or the fault.
use Rattle.smt_sexpr.specs.Items.{trees_meant}
use Rattle.smt_reply.specs.Replies.{in_context}
use Rattle.smt_reply.proofs.Asked.{values_told, values_fail}
use Rattle.smt_reply.proofs.replies.values_reply.Goals as goal

pub returns-in-Err-clause-replies : goal.returns-in-Err-clause-replies
returns-in-Err-clause-replies c limit budget s held kept =
    values_fail limit c.args.at s (trees_meant c.args.terms) (in_context c.args.table.now c.args.stack.now c.args.answer.now) c.in-Err.stop (c.in-Err.ensures.ends limit budget s held kept)

pub returns-in-Ok-clause-replies : goal.returns-in-Ok-clause-replies
returns-in-Ok-clause-replies c limit budget s held kept =
    values_told limit c.args.at s (trees_meant c.args.terms) (in_context c.args.table.now c.args.stack.now c.args.answer.now) c.in-Ok.values (c.in-Ok.ensures.ends limit budget s held kept)
