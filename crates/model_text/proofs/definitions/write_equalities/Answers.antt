-- One of the equalities more was written, or a prefix of it.
use Rattle.world_io.proofs.Chains.{next, fails}
use Rattle.model_text.proofs.Loops.{next_equality}
use Rattle.model_text.proofs.definitions.write_equalities.Goals as goal

pub returns-in_err-write_next : goal.returns-in_err-write_next
returns-in_err-write_next g c = fails _ (next_equality c.args.symbols.now.sorts c.args.arguments.now c.arguments.k _ c.index-arguments-k.result c.arguments-test.true c.index-arguments-k.is c.arguments.invariant.sending) c.in_err-write_next.ensures c.from_residual.ensures.0

pub arguments-preserved : goal.arguments-preserved
arguments-preserved g c = record { sending = next (next_equality c.args.symbols.now.sorts c.args.arguments.now c.arguments.k _ c.index-arguments-k.result c.arguments-test.true c.index-arguments-k.is c.arguments.invariant.sending) c.in_ok-write_next.ensures }
