-- That the tables are those of the symbols up to here.
use Rattle.std.proofs.Common.{◌≡◌, ◌∙◌, sym, ap, subst, map}
use Rattle.std.proofs.lemmas.List.Elements.{All-nil}
use Rattle.spec_valuations.specs.Tables.{default_value}
use Rattle.term_core.specs.Symbols.{SymbolsView, HasSortIn, sort_meant, symbol_at}
use Rattle.term_walks.specs.Valuations.{row_meant, AreRowsNamed, IsRowNamed}
use Rattle.search_model.proofs.TablesMade.{blank_more}
use Rattle.search_model.proofs.rows.blank_tables.Goals as goal

pub symbols-preserved : goal.symbols-preserved
symbols-preserved c =
    let t = c.args.table.now in
    let at = c.symbols.at in
    let sort = c.result.result in
    let here = c.symbols-in-symbols.ensures in
    let sort_is = subst (λ (d : SymbolsView). sort_meant d.sorts sort ≡ (symbol_at d.symbols (record { 0 = at })).result) here c.result.ensures.means in
    let there = subst (λ (d : SymbolsView). HasSortIn d.sorts sort) here c.result.ensures.there in
    let value = c.default_of.ensures.means t.sorts ∙ ap default_value sort_is in
    rw c.in_ok-push.ensures.items (blank_more t at c.symbols.tables.items (record { rows = c.new.result; default = c.default_of.result }) c.symbols.invariant
    (λ i. record { rows = map (row_meant t.sorts) (c.new.ensures.items i); default = value i })
    (record { rows = subst (AreRowsNamed t.sorts) (sym c.new.ensures.items) (All-nil (IsRowNamed t.sorts)); default = c.default_of.ensures.named t.sorts there }))
