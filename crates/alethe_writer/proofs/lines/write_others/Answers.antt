-- One of the arguments more was written, or a prefix of it.
use Rattle.std.proofs.Common.{arith}
use Rattle.world_io.proofs.Chains.{start_whole, next, fails, finished}
use Rattle.alethe_writer.proofs.Starts.{next_fraction, no_fraction}
use Rattle.alethe_writer.proofs.lines.write_others.Goals as goal

pub arguments-init : goal.arguments-init
arguments-init g c = record { sending = start_whole _ _ }

pub arguments-preserved : goal.arguments-preserved
arguments-preserved g c = record { sending = next (next_fraction c.args.arguments.now c.arguments.argument-index _ _ c.arguments-test.true c.argument-item.is c.arguments.invariant.sending) c.in_ok-write_fraction.ensures }

pub returns-in_err-write_fraction : goal.returns-in_err-write_fraction
returns-in_err-write_fraction g c = fails _ (next_fraction c.args.arguments.now c.arguments.argument-index _ _ c.arguments-test.true c.argument-item.is c.arguments.invariant.sending) c.in_err-write_fraction.ensures c.from_residual.ensures.0

pub returns : goal.returns
returns g c = finished (no_fraction c.args.arguments.now c.arguments.argument-index (omega (arith, c.arguments-test.false)) c.arguments.invariant.sending)
