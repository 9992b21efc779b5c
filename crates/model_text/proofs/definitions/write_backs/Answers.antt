-- One of the rows more was closed, or not.
use Rattle.world_io.proofs.Chains.{next, fails}
use Rattle.model_text.proofs.Loops.{next_back}
use Rattle.model_text.proofs.definitions.write_backs.Goals as goal

pub returns-in_err-write_all : goal.returns-in_err-write_all
returns-in_err-write_all g c = fails _ (next_back c.args.symbols.now.sorts c.args.rows.now c.rows._row-index c._row-item.result c.rows-test.true c.rows.invariant.sending) c.in_err-write_all.ensures c.from_residual.ensures.0

pub rows-preserved : goal.rows-preserved
rows-preserved g c = record { sending = next (next_back c.args.symbols.now.sorts c.args.rows.now c.rows._row-index c._row-item.result c.rows-test.true c.rows.invariant.sending) c.in_ok-write_all.ensures }
