-- The table of a symbol, part by part.
use Rattle.std.proofs.Common.{◌≡◌, List, sym, ap, ◌∙◌, subst}
use Rattle.std.specs.Prelude.{Ok}
use Rattle.spec_sorts.specs.Values.{Table}
use Rattle.spec_sorts.specs.Terms.{Sort}
use Rattle.spec_model_files.specs.Faults.{ReadModel}
use Rattle.spec_model_files.specs.Bodies.{body_read}
use Rattle.spec_model_files.specs.Values.{sort_read}
use Rattle.spec_model_files.specs.Definitions.{parameter_list_read}
use Rattle.term_core.specs.Symbols.{SymbolsView, symbol_at, sort_meant, sorts_meant}
use Rattle.term_walks.specs.Valuations.{table_meant}
use Rattle.model_read.specs.Shapes.{definition_view}
use Rattle.model_read.specs.Bodies.{named_sorts}
use Rattle.model_read.specs.Definitions.{table_by}
use Rattle.model_read.specs.Values.{GivesAs}
use Rattle.model_read.proofs.Stopping.{stops_with}
use Rattle.model_read.proofs.DefinitionTexts.{table_is, table_no_sort, table_no_parameters}
use Rattle.model_read.proofs.definitions.table_of.Goals as goal

pub returns-in-Ok-want_sort-clause-reads : goal.returns-in-Ok-want_sort-clause-reads
returns-in-Ok-want_sort-clause-reads c g m =
    let t = c.args.table.now in
    let s = symbol_at t.symbols c.args.symbol in
    let p = definition_view c.args.parts in
    let sorts = c.parameters-sorts.result.now in
    let sorts_are : sorts_meant t.sorts sorts ≡ s.parameters = subst (λ (d : SymbolsView). sorts_meant d.sorts sorts ≡ (symbol_at d.symbols c.args.symbol).parameters) c.symbols.ensures c.parameters-sorts.ensures.means in
    let gives_is : sort_meant t.sorts c.result-gives.result ≡ s.result = subst (λ (d : SymbolsView). sort_meant d.sorts c.result-gives.result ≡ (symbol_at d.symbols c.args.symbol).result) c.symbols-2.ensures c.result-gives.ensures.means in
    let ps = named_sorts c.in-Ok.names s.parameters in
    let list : parameter_list_read g s.parameters p.parameters ≡ Ok ps = subst (λ (ss : List Sort). parameter_list_read g ss p.parameters ≡ Ok (named_sorts c.in-Ok.names ss)) sorts_are (c.in-Ok.ensures.reads g m) in
    let sort : sort_read g s.result p.sort ≡ Ok tt = subst (λ (r : Sort). sort_read g r p.sort ≡ Ok tt) gives_is (sym (c.in-Ok-want_sort.ensures g m)) in
    let body = c.body.ensures.reads g m in
    subst (λ (r : ReadModel Table). GivesAs (table_meant t.sorts) c.body.result r) (sym (table_is g s p ps list sort))
    (subst (λ (r : Sort). GivesAs (table_meant t.sorts) c.body.result (body_read g ps r p.body)) gives_is
    (subst (λ (ss : List Sort). GivesAs (table_meant t.sorts) c.body.result (body_read g (named_sorts c.in-Ok.names ss) (sort_meant t.sorts c.result-gives.result) p.body)) sorts_are body))

pub returns-in-Ok-clause-reads : goal.returns-in-Ok-clause-reads
returns-in-Ok-clause-reads c g m =
    let t = c.args.table.now in
    let s = symbol_at t.symbols c.args.symbol in
    let p = definition_view c.args.parts in
    let sorts = c.parameters-sorts.result.now in
    let sorts_are : sorts_meant t.sorts sorts ≡ s.parameters = subst (λ (d : SymbolsView). sorts_meant d.sorts sorts ≡ (symbol_at d.symbols c.args.symbol).parameters) c.symbols.ensures c.parameters-sorts.ensures.means in
    let gives_is : sort_meant t.sorts c.result-gives.result ≡ s.result = subst (λ (d : SymbolsView). sort_meant d.sorts c.result-gives.result ≡ (symbol_at d.symbols c.args.symbol).result) c.symbols-2.ensures c.result-gives.ensures.means in
    table_no_sort g s p (named_sorts c.in-Ok.names s.parameters) _
    (subst (λ (ss : List Sort). parameter_list_read g ss p.parameters ≡ Ok (named_sorts c.in-Ok.names ss)) sorts_are (c.in-Ok.ensures.reads g m))
    (ap (λ (r : Sort). sort_read g r p.sort) (sym gives_is) ∙ sym (c.in-Err-want_sort.ensures g m))

pub returns-clause-reads : goal.returns-clause-reads
returns-clause-reads c g m =
    let t = c.args.table.now in
    let s = symbol_at t.symbols c.args.symbol in
    let p = definition_view c.args.parts in
    let sorts = c.parameters-sorts.result.now in
    let sorts_are : sorts_meant t.sorts sorts ≡ s.parameters = subst (λ (d : SymbolsView). sorts_meant d.sorts sorts ≡ (symbol_at d.symbols c.args.symbol).parameters) c.symbols.ensures c.parameters-sorts.ensures.means in
    stops_with (parameter_list_read g (sorts_meant t.sorts sorts) p.parameters) (table_by g s p) c.in-Err.error
    (λ f h. table_no_parameters g s p _ (ap (λ (ss : List Sort). parameter_list_read g ss p.parameters) (sym sorts_are) ∙ h)) (c.in-Err.ensures.reads g m)
