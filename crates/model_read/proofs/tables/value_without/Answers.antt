-- The value of a symbol that no definition gives a table.
use Rattle.std.proofs.Common.{◌≡◌, ap, sym, ◌∙◌, subst}
use Rattle.spec_text.specs.Bytes.{Name}
use Rattle.spec_sorts.specs.Signatures.{known_as}
use Rattle.spec_model_files.specs.Definitions.{declared_symbol, usual_value, usual_table}
use Rattle.term_core.specs.Symbols.{SymbolsView, IsSymbol, HasSortIn, symbol_at, sort_meant}
use Rattle.term_reader.specs.Scopes.{function_under}
use Rattle.model_read.proofs.DefinitionTexts.{declared_means, undeclared_means}
use Rattle.model_read.proofs.tables.value_without.Goals as goal

pub name-requires : goal.name-requires
name-requires c = subst (λ (d : SymbolsView). IsSymbol d.symbols c.args.symbol) (sym c.symbols.ensures) c.requires.symbol

pub result-requires : goal.result-requires
result-requires c =
    let n = c.name.result.now in
    subst (λ (d : SymbolsView). IsSymbol d.symbols c.in-Some.id) (sym c.symbols-in-Some.ensures)
    (declared_means c.args.table.now (function_under c.args.scope.now n) (known_as c.requires.known.0 n) c.in-Some.id (c.requires.known.1.functions n) (sym c.in-Some.ensures)).0

pub returns-in-Some-clause-means : goal.returns-in-Some-clause-means
returns-in-Some-clause-means c g m =
    let t = c.args.table.now in
    let n = c.name.result.now in
    let named : n ≡ (symbol_at t.symbols c.args.symbol).name = subst (λ (d : SymbolsView). n ≡ (symbol_at d.symbols c.args.symbol).name) c.symbols.ensures c.name.ensures in
    let d = declared_means t (function_under c.args.scope.now n) (known_as g n) c.in-Some.id (m.functions n) (sym c.in-Some.ensures) in
    let sort : sort_meant t.sorts c.result.result ≡ (symbol_at t.symbols c.in-Some.id).result = subst (λ (v : SymbolsView). sort_meant v.sorts c.result.result ≡ (symbol_at v.symbols c.in-Some.id).result) c.symbols-in-Some.ensures c.result.ensures.means in
    c.usual_value.ensures.means t.sorts
    ∙ ap usual_value sort
    ∙ sym (ap (λ o. (usual_table o).default) (ap (λ (k : Name). declared_symbol (known_as g k)) (sym named) ∙ d.1))

pub returns-in-Some-clause-named : goal.returns-in-Some-clause-named
returns-in-Some-clause-named c =
    c.usual_value.ensures.named c.args.table.now.sorts (subst (λ (v : SymbolsView). HasSortIn v.sorts c.result.result) c.symbols-in-Some.ensures c.result.ensures.there)

pub returns-in-None-clause-means : goal.returns-in-None-clause-means
returns-in-None-clause-means c g m =
    let t = c.args.table.now in
    let n = c.name.result.now in
    let named : n ≡ (symbol_at t.symbols c.args.symbol).name = subst (λ (d : SymbolsView). n ≡ (symbol_at d.symbols c.args.symbol).name) c.symbols.ensures c.name.ensures in
    sym (ap (λ o. (usual_table o).default) (ap (λ (k : Name). declared_symbol (known_as g k)) (sym named) ∙ undeclared_means t (function_under c.args.scope.now n) (known_as g n) (m.functions n) (sym c.in-None.ensures)))
