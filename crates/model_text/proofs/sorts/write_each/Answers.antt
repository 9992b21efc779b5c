-- One of the parameters more was written, or a prefix of it.
use Rattle.world_io.proofs.Chains.{next, fails}
use Rattle.model_text.proofs.Loops.{next_parameter}
use Rattle.model_text.proofs.sorts.write_each.Goals as goal

pub returns-in_err-write_parameter : goal.returns-in_err-write_parameter
returns-in_err-write_parameter g c = fails _ (next_parameter c.args.symbols.now.sorts c.args.sorts.now c.sorts.k _ c.sorts-test.true c.sorts.invariant.sending) c.in_err-write_parameter.ensures c.from_residual.ensures.0

pub sorts-preserved : goal.sorts-preserved
sorts-preserved g c = record { sending = next (next_parameter c.args.symbols.now.sorts c.args.sorts.now c.sorts.k _ c.sorts-test.true c.sorts.invariant.sending) c.in_ok-write_parameter.ensures }
