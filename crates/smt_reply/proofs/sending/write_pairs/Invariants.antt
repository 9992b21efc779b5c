-- The pairs from here on are to come.
use Rattle.std.proofs.Common.{drop, map, [], ◌∷◌}
use Rattle.world_io.proofs.Chains.{IsSending}
use Rattle.smt_reply.specs.Pairs.{pair_text}
use Rattle.smt_reply.specs.Replies.{listed}
use Rattle.smt_reply.proofs.sending.write_pairs.Given as goal

abbrev pub invariant-pairs : goal.invariant-pairs
invariant-pairs g l =
    let texts = map (pair_text l.symbols.sorts) l.pairs in
    record {
      sending : IsSending (listed 0 texts) (listed l.k (drop l.k texts) ∷ []) (g.K.Sink.state l.fn.out) (g.K.Sink.state l.out);
    }
