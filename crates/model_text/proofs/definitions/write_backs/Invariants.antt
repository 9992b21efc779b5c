-- What closes the rows from here on is to come.
use Rattle.std.proofs.Common.{drop, map, [], ◌∷◌}
use Rattle.world_io.proofs.Chains.{IsSending}
use Rattle.spec_models.specs.Models.{body_back}
use Rattle.term_walks.specs.Valuations.{row_meant}
use Rattle.model_text.proofs.definitions.write_backs.Given as goal

abbrev pub invariant-rows : goal.invariant-rows
invariant-rows g l =
    let rows = map (row_meant l.symbols.sorts) l.rows in
    record {
      sending : IsSending (body_back rows) (body_back (drop l._row-index rows) ∷ []) (g.K.Sink.state l.fn.out) (g.K.Sink.state l.out);
    }
