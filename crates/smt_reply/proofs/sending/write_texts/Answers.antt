-- One of the texts more was written, or a prefix of it.
use Rattle.std.proofs.Common.{◌<◌, length, ap, arith}
use Rattle.world_io.proofs.Chains.{next, fails}
use Rattle.assertion_stack.specs.Assertions.{Written, no_written, written_meant}
use Rattle.smt_reply.proofs.Listed.{next_text}
use Rattle.smt_reply.proofs.sending.write_texts.Goals as goal

pub returns-in_err-write_text : goal.returns-in_err-write_text
returns-in_err-write_text g c =
    let ws = c.args.stack.now.assertions.written in
    let there : c.texts.k < length ws = omega (arith, c.texts-test.true, ap length c.current-k-end.ensures, c.requires) in
    fails _ (next_text (λ (w : Written). w.text) ws c.texts.k no_written (written_meant c.written.result) there c.written.ensures c.texts.invariant.sending) c.in_err-write_text.ensures c.from_residual.ensures.0

pub texts-preserved : goal.texts-preserved
texts-preserved g c =
    let ws = c.args.stack.now.assertions.written in
    let there : c.texts.k < length ws = omega (arith, c.texts-test.true, ap length c.current-k-end.ensures, c.requires) in
    record { sending = next (next_text (λ (w : Written). w.text) ws c.texts.k no_written (written_meant c.written.result) there c.written.ensures c.texts.invariant.sending) c.in_ok-write_text.ensures }
