-- The terms from here on are to come. A term's arguments have smaller numbers.
use Rattle.std.proofs.Common.{◌+◌, ◌*◌, drop, [], ◌∷◌}
use Rattle.world_io.proofs.Chains.{IsSending}
use Rattle.alethe_writer.specs.Printing.{arguments_text}
use Rattle.alethe_writer.proofs.arguments.+arguments.Given as goal

abbrev pub decreases-write_argument : goal.decreases-write_argument
decreases-write_argument g l = 3 * l.id.0 + 2

abbrev pub decreases-write_in_place : goal.decreases-write_in_place
decreases-write_in_place g l = 3 * l.id.0 + 1

abbrev pub decreases-write_terms_below : goal.decreases-write_terms_below
decreases-write_terms_below g l = 3 * l.above

abbrev pub invariant-write_terms_below-ids : goal.invariant-write_terms_below-ids
invariant-write_terms_below-ids g l = record {
  sending : IsSending (arguments_text l.table l.plan l.ids) (arguments_text l.table l.plan (drop l.id-index l.ids) ∷ []) (g.K.Sink.state l.fn.out) (g.K.Sink.state l.out);
}
