-- One of the rows more was written, or a prefix of it.
use Rattle.world_io.proofs.Chains.{next, fails}
use Rattle.model_text.proofs.Loops.{next_front}
use Rattle.model_text.proofs.definitions.write_fronts.Goals as goal

pub returns-in_err-write_front : goal.returns-in_err-write_front
returns-in_err-write_front g c = fails _ (next_front c.args.symbols.now.sorts c.args.rows.now c.rows.row-index _ c.row-item.result c.rows-test.true c.row-item.is c.rows.invariant.sending) c.in_err-write_front.ensures c.from_residual.ensures.0

pub rows-preserved : goal.rows-preserved
rows-preserved g c = record { sending = next (next_front c.args.symbols.now.sorts c.args.rows.now c.rows.row-index _ c.row-item.result c.rows-test.true c.row-item.is c.rows.invariant.sending) c.in_ok-write_front.ensures }
