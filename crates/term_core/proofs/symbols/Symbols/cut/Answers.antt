-- The first symbols are of the first names and ranks, over the first sorts.
use Rattle.std.proofs.Common.{◌≡◌, List, [], take, drop, sym, ap, ◌∙◌, subst}
use Rattle.std.proofs.lemmas.List.{take-append-drop}
use Rattle.spec_text.specs.Bytes.{Name}
use Rattle.term_core.specs.Symbols.{SymbolsView, symbols_of, AreRanks}
use Rattle.term_core.specs.Uses.{AreSymbolsOver}
use Rattle.term_core.proofs.NamesApart.{AreApart-take}
use Rattle.term_core.proofs.SymbolsOver.{first_ranks, first_symbols}
use Rattle.term_core.proofs.symbols.Symbols.cut.Goals as goal

abbrev sorts : goal.After-truncate → List Name
sorts c = take c.args.sorts c.self.inside.sorts

ranks : (c : goal.After-truncate) → AreRanks (sorts c) (take c.args.symbols c.self.inside.names) (take c.args.symbols c.self.inside.ranks.items)
ranks c =
    let i = c.self.inside in
    first_ranks (sorts c) i.sorts (drop c.args.sorts i.sorts) (sym (take-append-drop c.args.sorts i.sorts)) c.self.invariant.sorts_apart c.args.symbols i.names i.ranks.items
    (AreApart-take [] i.sorts c.args.sorts c.self.invariant.sorts_apart) c.self.invariant
    (subst (λ (v : SymbolsView). AreSymbolsOver (take c.args.sorts v.sorts) (take c.args.symbols v.symbols)) (sym c.self.view_is) c.requires)

pub invariant_of-self : goal.invariant_of-self
invariant_of-self c =
    subst (λ ss. AreRanks ss c.cut-2.new.self c.truncate.new.self.items) (sym c.cut.ensures)
    (subst (λ ns. AreRanks (sorts c) ns c.truncate.new.self.items) (sym c.cut-2.ensures)
    (subst (AreRanks (sorts c) (take c.args.symbols c.self.inside.names)) (sym c.truncate.ensures.items) (ranks c)))

pub returns : goal.returns
returns c =
    let i = c.self.inside in
    let is : symbols_of c.cut.new.self c.cut-2.new.self c.truncate.new.self.items ≡ take c.args.symbols (symbols_of i.sorts i.names i.ranks.items) =
    (λ j. symbols_of (c.cut.ensures j) (c.cut-2.ensures j) (c.truncate.ensures.items j))
    ∙ first_symbols (sorts c) i.sorts (drop c.args.sorts i.sorts) (sym (take-append-drop c.args.sorts i.sorts)) c.self.invariant.sorts_apart c.args.symbols i.names i.ranks.items (ranks c) in
    let whole : SymbolsView = record { sorts = i.sorts; symbols = symbols_of i.sorts i.names i.ranks.items } in
    let inner : record { sorts = c.cut.new.self; symbols = symbols_of c.cut.new.self c.cut-2.new.self c.truncate.new.self.items } ≡ record { sorts = take c.args.sorts whole.sorts; symbols = take c.args.symbols whole.symbols } =
    λ j. record { sorts = c.cut.ensures j; symbols = is j } in
    inner ∙ ap (λ (v : SymbolsView). record { sorts = take c.args.sorts v.sorts; symbols = take c.args.symbols v.symbols }) c.self.view_is
