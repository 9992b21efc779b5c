-- The names from here on are to come.
use Rattle.std.proofs.Common.{drop, map, [], ◌∷◌}
use Rattle.world_io.proofs.Chains.{IsSending}
use Rattle.spec_text.specs.Printed.{printed_symbol}
use Rattle.smt_reply.specs.Replies.{listed}
use Rattle.smt_reply.proofs.sending.write_names.Given as goal

abbrev pub invariant-names : goal.invariant-names
invariant-names g l =
    let texts = map printed_symbol l.names in
    record {
      sending : IsSending (listed 0 texts) (listed l.k (drop l.k texts) ∷ []) (g.K.Sink.state l.fn.out) (g.K.Sink.state l.out);
    }
