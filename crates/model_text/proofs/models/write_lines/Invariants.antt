-- The lines of the symbols from here on are to come.
use Rattle.std.proofs.Common.{drop}
use Rattle.world_io.proofs.Chains.{IsSending, joined}
use Rattle.term_walks.specs.Valuations.{tables_meant}
use Rattle.model_text.specs.Lines.{lines_by}
use Rattle.model_text.proofs.models.write_lines.Given as goal

abbrev pub invariant-symbols : goal.invariant-symbols
invariant-symbols g l =
    let tables = tables_meant l.symbols.sorts l.interp in
    record {
      sending : IsSending (joined (lines_by l.symbols.symbols tables)) (lines_by (drop l.k l.symbols.symbols) (drop l.k tables)) (g.K.Sink.state l.fn.out) (g.K.Sink.state l.out);
    }
