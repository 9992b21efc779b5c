-- The arguments from here on are to come.
use Rattle.std.proofs.Common.{drop, [], ◌∷◌}
use Rattle.world_io.proofs.Chains.{IsSending}
use Rattle.rule_bool.specs.Arguments.{fractions_of}
use Rattle.alethe_writer.specs.Printing.{fractions_spaced}
use Rattle.alethe_writer.proofs.lines.write_others.Given as goal

abbrev pub invariant-arguments : goal.invariant-arguments
invariant-arguments g l = record {
  sending : IsSending (fractions_spaced (fractions_of l.arguments)) (fractions_spaced (fractions_of (drop l.argument-index l.arguments)) ∷ []) (g.K.Sink.state l.fn.out) (g.K.Sink.state l.out);
}
