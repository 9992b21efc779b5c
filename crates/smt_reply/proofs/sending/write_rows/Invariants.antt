-- The rows from here on are to come.
use Rattle.std.proofs.Common.{drop, [], ◌∷◌}
use Rattle.world_io.proofs.Chains.{IsSending}
use Rattle.smt_reply.specs.Replies.{listed}
use Rattle.smt_reply.proofs.sending.write_rows.Given as goal

abbrev pub invariant-rows : goal.invariant-rows
invariant-rows g l = record { sending : IsSending (listed 0 l.rows) (listed l.k (drop l.k l.rows) ∷ []) (g.K.Sink.state l.fn.out) (g.K.Sink.state l.out) }
