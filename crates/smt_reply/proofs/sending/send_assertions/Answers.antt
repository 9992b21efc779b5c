-- The texts in their parentheses.
use Rattle.world_io.proofs.Chains.{next, fails, last}
use Rattle.smt_reply.specs.Replies.{texts_of}
use Rattle.smt_reply.proofs.Listed.{list_start}
use Rattle.smt_reply.proofs.sending.send_assertions.Goals as goal

pub returns-in_err-write_all : goal.returns-in_err-write_all
returns-in_err-write_all g c = fails _ (list_start (texts_of c.args.stack.now.assertions.written) _) c.in_err-write_all.ensures c.from_residual.ensures.0

pub returns-in_err-write_texts : goal.returns-in_err-write_texts
returns-in_err-write_texts g c =
    let s0 = list_start (texts_of c.args.stack.now.assertions.written) _ in
    fails _ (next s0 c.in_ok-write_all.ensures) c.in_err-write_texts.ensures c.from_residual-in_err-write_texts.ensures.0

pub returns : goal.returns
returns g c =
    let s0 = list_start (texts_of c.args.stack.now.assertions.written) _ in
    last _ _ (next (next s0 c.in_ok-write_all.ensures) c.in_ok-write_texts.ensures) c.write_all-2.ensures
