-- Names with ranks are declared symbols.
use Rattle.std.proofs.Common.{subst}
use Rattle.term_core.specs.Symbols.{SymbolsView, AreDeclared}
use Rattle.term_core.proofs.SymbolsNamed.{declared_by}
use Rattle.term_core.proofs.symbols.Symbols.are_declared.Goals as goal

pub returns : goal.returns
returns c = subst (λ (v : SymbolsView). AreDeclared v.sorts v.symbols) c.self.view_is (declared_by c.self.inside.sorts c.self.inside.names c.self.inside.ranks.items c.self.invariant)
