-- The texts from here on are to come.
use Rattle.std.proofs.Common.{drop, [], ◌∷◌}
use Rattle.world_io.proofs.Chains.{IsSending}
use Rattle.smt_reply.specs.Replies.{listed, texts_of}
use Rattle.smt_reply.proofs.sending.write_texts.Given as goal

abbrev pub invariant-texts : goal.invariant-texts
invariant-texts g l =
    let texts = texts_of l.stack.assertions.written in
    record {
      sending : IsSending (listed 0 texts) (listed l.k (drop l.k texts) ∷ []) (g.K.Sink.state l.fn.out) (g.K.Sink.state l.out);
    }
