-- The parameters from here on are to come.
use Rattle.std.proofs.Common.{drop, [], ◌∷◌}
use Rattle.world_io.proofs.Chains.{IsSending}
use Rattle.term_core.specs.Symbols.{sorts_meant}
use Rattle.model_text.specs.Lines.{parameters_listed}
use Rattle.model_text.proofs.sorts.write_each.Given as goal

abbrev pub invariant-sorts : goal.invariant-sorts
invariant-sorts g l =
    let sorts = sorts_meant l.symbols.sorts l.sorts in
    record {
      sending : IsSending (parameters_listed 0 sorts) (parameters_listed l.k (drop l.k sorts) ∷ []) (g.K.Sink.state l.fn.out) (g.K.Sink.state l.out);
    }
