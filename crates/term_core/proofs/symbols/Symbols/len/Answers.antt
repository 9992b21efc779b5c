-- There are as many symbols as names.
use Rattle.std.proofs.Common.{length, sym, ap, ◌∙◌}
use Rattle.term_core.specs.Symbols.{SymbolsView}
use Rattle.term_core.proofs.SymbolsNamed.{symbols_long}
use Rattle.term_core.proofs.symbols.Symbols.len.Goals as goal

pub returns : goal.returns
returns c =
    c.len.ensures ∙ sym (symbols_long c.self.inside.sorts c.self.inside.names c.self.inside.ranks.items c.self.invariant.long) ∙ ap (λ (v : SymbolsView). length v.symbols) c.self.view_is
