-- One of the rows more was written, or a prefix of it.
use Rattle.std.proofs.Common.{◌<◌, length, arith}
use Rattle.world_io.proofs.Chains.{next, fails}
use Rattle.smt_reply.proofs.Listed.{next_row}
use Rattle.smt_reply.proofs.sending.write_rows.Goals as goal

pub returns-in_err-write_text : goal.returns-in_err-write_text
returns-in_err-write_text g c =
    let there : c.rows.k < length c.args.rows.now = omega (arith, c.rows-test.true, c.len-k-end.ensures) in
    fails _ (next_row c.args.rows.now c.rows.k c.row.result.now there c.row.ensures c.rows.invariant.sending) c.in_err-write_text.ensures c.from_residual.ensures.0

pub rows-preserved : goal.rows-preserved
rows-preserved g c =
    let there : c.rows.k < length c.args.rows.now = omega (arith, c.rows-test.true, c.len-k-end.ensures) in
    record { sending = next (next_row c.args.rows.now c.rows.k c.row.result.now there c.row.ensures c.rows.invariant.sending) c.in_ok-write_text.ensures }
