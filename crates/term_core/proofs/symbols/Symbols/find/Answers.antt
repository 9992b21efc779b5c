-- What a look-up of a name says of the symbols.
use Rattle.std.proofs.Common.{◌≡◌, false, ◌<◌, Some, List, [], get_or, subst, sym, ap, ◌∙◌}
use Rattle.std.proofs.lemmas.List.{get_or-map}
use Rattle.spec_sorts.specs.Terms.{Symbol}
use Rattle.spec_text.specs.Bytes.{among}
use Rattle.term_core.specs.declared.ids.SymbolId.{SymbolId}
use Rattle.term_core.specs.Symbols.{SymbolsView, symbol_named, symbol_at, no_symbol, names_of, IsSymbol, symbols_of}
use Rattle.term_core.proofs.SymbolsNamed.{none_named, names_back, symbols_long, first_named, declared_by}
use Rattle.term_core.proofs.symbols.Symbols.find.Goals as goal

pub returns-in_err-number : goal.returns-in_err-number
returns-in_err-number c =
    let i = c.self.inside in
    let back = names_back i.sorts i.names i.ranks.items c.self.invariant.long in
    let none : among (names_of c.args.self.now.symbols) c.args.name.now ≡ false = ap (λ (v : SymbolsView). among (names_of v.symbols) c.args.name.now) (sym c.self.view_is) ∙ ap (λ ns. among ns c.args.name.now) back ∙ c.in_err-number.ensures in
    rw c.from_residual.ensures (none_named c.args.self.now.symbols c.args.name.now none)

pub returns : goal.returns
returns c = subst (λ (v : SymbolsView). IsSymbol v.symbols s × ((symbol_at v.symbols s).name ≡ c.args.name.now) × (symbol_named v.symbols c.args.name.now ≡ Some (symbol_at v.symbols s))) c.self.view_is (within, named, first)
  where
    s : SymbolId
    s = record { 0 = c.in_ok-number.number }

    symbols : List Symbol
    symbols = symbols_of c.self.inside.sorts c.self.inside.names c.self.inside.ranks.items

    within : IsSymbol symbols s
    within = subst (λ l. s.0 < l) (sym (symbols_long c.self.inside.sorts c.self.inside.names c.self.inside.ranks.items c.self.invariant.long)) c.in_ok-number.ensures.0

    named : (symbol_at symbols s).name ≡ c.args.name.now
    named = sym (get_or-map (λ (t : Symbol). t.name) symbols s.0 no_symbol [] within)
        ∙ ap (λ ns. get_or ns s.0 []) (names_back c.self.inside.sorts c.self.inside.names c.self.inside.ranks.items c.self.invariant.long) ∙ c.in_ok-number.ensures.1

    first : symbol_named symbols c.args.name.now ≡ Some (symbol_at symbols s)
    first = ap (symbol_named symbols) (sym named) ∙ first_named symbols s.0 (declared_by c.self.inside.sorts c.self.inside.names c.self.inside.ranks.items c.self.invariant).names_apart within
