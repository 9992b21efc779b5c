-- One of the pairs more was written, or a prefix of it.
use Rattle.world_io.proofs.Chains.{next, fails}
use Rattle.smt_reply.specs.Pairs.{pair_text}
use Rattle.smt_reply.proofs.Listed.{next_text}
use Rattle.smt_reply.proofs.sending.write_pairs.Goals as goal

pub returns-in_err-write_pair : goal.returns-in_err-write_pair
returns-in_err-write_pair g c =
    fails _ (next_text (pair_text c.args.symbols.now.sorts) c.args.pairs.now c.pairs.k _ c.index-pairs-k.result c.pairs-test.true c.index-pairs-k.is c.pairs.invariant.sending) c.in_err-write_pair.ensures c.from_residual.ensures.0

pub pairs-preserved : goal.pairs-preserved
pairs-preserved g c =
    record { sending = next (next_text (pair_text c.args.symbols.now.sorts) c.args.pairs.now c.pairs.k _ c.index-pairs-k.result c.pairs-test.true c.index-pairs-k.is c.pairs.invariant.sending) c.in_ok-write_pair.ensures }
