-- The sorts of each symbol's rank are there.
use Rattle.std.proofs.Common.{subst}
use Rattle.term_core.specs.Symbols.{SymbolsView}
use Rattle.term_core.specs.Uses.{AreSymbolsOver}
use Rattle.term_core.proofs.SymbolsOver.{symbols_over}
use Rattle.term_core.proofs.symbols.Symbols.symbols_use_sorts.Goals as goal

pub returns : goal.returns
returns c = subst (λ (v : SymbolsView). AreSymbolsOver v.sorts v.symbols) c.self.view_is (symbols_over c.self.inside.sorts c.self.inside.names c.self.inside.ranks.items c.self.invariant.each)
