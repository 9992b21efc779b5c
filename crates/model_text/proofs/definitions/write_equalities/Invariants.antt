-- The equalities from here on are to come.
use Rattle.std.proofs.Common.{drop, [], ◌∷◌}
use Rattle.world_io.proofs.Chains.{IsSending}
use Rattle.term_walks.specs.Valuations.{values_meant}
use Rattle.model_text.specs.Lines.{equalities_listed}
use Rattle.model_text.proofs.definitions.write_equalities.Given as goal

abbrev pub invariant-arguments : goal.invariant-arguments
invariant-arguments g l =
    let values = values_meant l.symbols.sorts l.arguments in
    record {
      sending : IsSending (equalities_listed 0 values) (equalities_listed l.k (drop l.k values) ∷ []) (g.K.Sink.state l.fn.out) (g.K.Sink.state l.out);
    }
