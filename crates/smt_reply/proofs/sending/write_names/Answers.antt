-- One of the names more was written, or a prefix of it.
use Rattle.std.proofs.Common.{◌<◌, [], length, arith}
use Rattle.world_io.proofs.Chains.{next, fails}
use Rattle.spec_text.specs.Printed.{printed_symbol}
use Rattle.smt_reply.proofs.Listed.{next_text}
use Rattle.smt_reply.proofs.sending.write_names.Goals as goal

pub returns-in_err-write_name : goal.returns-in_err-write_name
returns-in_err-write_name g c =
    let there : c.names.k < length c.args.names.now = omega (arith, c.names-test.true, c.len-k-end.ensures) in
    fails _ (next_text printed_symbol c.args.names.now c.names.k [] c.row.result.now there c.row.ensures c.names.invariant.sending) c.in_err-write_name.ensures c.from_residual.ensures.0

pub names-preserved : goal.names-preserved
names-preserved g c =
    let there : c.names.k < length c.args.names.now = omega (arith, c.names-test.true, c.len-k-end.ensures) in
    record { sending = next (next_text printed_symbol c.args.names.now c.names.k [] c.row.result.now there c.row.ensures c.names.invariant.sending) c.in_ok-write_name.ensures }
