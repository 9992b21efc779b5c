-- A write more moves the prefix on, and one that failed ends it.
use Rattle.std.proofs.Common.{arith}
use Rattle.std.proofs.lemmas.List.{take_rest}
use Rattle.world_io.proofs.Sending.{one_write_more, write_fails, all_written, nothing_sent}
use Rattle.world_io.proofs.sink.write_prefix.Goals as goal

pub pieces-init : goal.pieces-init
pieces-init g c = record { within = omega arith; sent = nothing_sent _ }

pub pieces-preserved : goal.pieces-preserved
pieces-preserved g c =
    let more = one_write_more c.args.bytes.now c.pieces.count c.in-Ok.n _ _ _ c.pieces.invariant.within c.pieces.invariant.sent (rw take_rest at c.in-Ok.ensures) in
    record { within = more.0; sent = more.1 }

pub returns-in-Err : goal.returns-in-Err
returns-in-Err g c = write_fails c.args.bytes.now c.pieces.count _ _ _ c.pieces-test.true c.pieces.invariant.sent (rw take_rest at c.in-Err.ensures)

pub returns : goal.returns
returns g c = all_written c.args.bytes.now c.pieces.count _ _ c.pieces.invariant.within c.pieces-test.false c.pieces.invariant.sent
