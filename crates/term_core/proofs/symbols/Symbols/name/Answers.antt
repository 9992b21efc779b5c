-- A symbol's name is that of its number.
use Rattle.std.proofs.Common.{◌≡◌, ◌<◌, List, [], get_or, subst, sym, ap, ◌∙◌}
use Rattle.std.proofs.lemmas.List.{get_or-map}
use Rattle.spec_sorts.specs.Terms.{Symbol}
use Rattle.term_core.specs.Symbols.{SymbolsView, symbol_at, no_symbol, IsSymbol, symbols_of}
use Rattle.term_core.proofs.SymbolsNamed.{names_back, symbols_long}
use Rattle.term_core.proofs.symbols.Symbols.name.Goals as goal

pub name-requires : goal.name-requires
name-requires c =
    subst (λ l. c.args.id.0 < l) (symbols_long c.self.inside.sorts c.self.inside.names c.self.inside.ranks.items c.self.invariant.long)
    (subst (λ (v : SymbolsView). IsSymbol v.symbols c.args.id) (sym c.self.view_is) c.requires)

pub returns : goal.returns
returns c = c.name.ensures ∙ sym named ∙ ap (λ (v : SymbolsView). (symbol_at v.symbols c.args.id).name) c.self.view_is
  where
    symbols : List Symbol
    symbols = symbols_of c.self.inside.sorts c.self.inside.names c.self.inside.ranks.items

    within : IsSymbol symbols c.args.id
    within = subst (λ (v : SymbolsView). IsSymbol v.symbols c.args.id) (sym c.self.view_is) c.requires

    named : (symbol_at symbols c.args.id).name ≡ get_or c.self.inside.names c.args.id.0 []
    named = sym (get_or-map (λ (t : Symbol). t.name) symbols c.args.id.0 no_symbol [] within)
        ∙ ap (λ ns. get_or ns c.args.id.0 []) (names_back c.self.inside.sorts c.self.inside.names c.self.inside.ranks.items c.self.invariant.long)
