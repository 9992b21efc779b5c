-- That the tables are those with one term more.
use Rattle.std.proofs.Common.{◌≡◌, ◌∙◌, List, length, ap, sym, map, subst, All, Contains}
use Rattle.std.proofs.Math.Dec.{eqb}
use Rattle.std.proofs.lemmas.Bool.{false≢true, eqb-true}
use Rattle.std.proofs.lemmas.List.{nil_from_length, get_or_default}
use Rattle.std.proofs.lemmas.List.Elements.{All-contains, All-map, All-weaker, All-contains_itself, Contains-get_or}
use Rattle.spec_sorts.specs.Terms.{Symbol, terms_of}
use Rattle.spec_sorts.specs.Values.{Table}
use Rattle.spec_valuations.specs.Tables.{arguments_at}
use Rattle.term_core.specs.declared.ids.TermId.{TermId}
use Rattle.term_core.specs.Symbols.{SymbolsView, AreDeclared}
use Rattle.term_core.specs.Tables.{term_at, clause_at, shape_of}
use Rattle.term_walks.specs.declared.values.Value.{Value as CodeValue}
use Rattle.term_walks.specs.Valuations.{value_meant, values_meant, IsNamed}
use Rattle.search_model.specs.Made.{no_value, value_at_id, IsValueOf, meant, default_put, row_put}
use Rattle.search_model.proofs.TablesMade.{other_arguments, tables_kept}
use Rattle.search_model.proofs.Noting.{IsApplication, row_noted, constant_noted, argument_valued}
use Rattle.search_model.proofs.rows.note.Goals as goal

pub returns-in_default : goal.returns-in_default
returns-in_default c v ids done values i h =
    let t = c.args.table.now in
    let n = c.node-node.result.now in
    let u = term_at t c.args.id in
    tables_kept t v done u (Contains-get_or t.terms c.args.id.0 _ c.requires.there) c.args.tables.now.items h
    (λ (s : Symbol). ap (arguments_at s) c.node-node.ensures.means ∙ other_arguments t n.head (terms_of (clause_at t n.arguments.items)) s c.in_default.ensures)

pub returns-then-is_empty : goal.returns-then-is_empty
returns-then-is_empty c v ids done values i h =
    let t = c.args.table.now in
    let n = c.node-node.result.now in
    let vs = c.args.values.now in
    let id = c.args.id in
    let tables = c.args.tables.now.items in
    let apart = (subst (λ (d : SymbolsView). AreDeclared d.sorts d.symbols) c.symbols.ensures c.are_declared.ensures).names_apart in
    let x : IsApplication t ids id (shape_of n) c.in-Some.symbol = record { there = c.requires.there; listed = i; means = c.node-node.ensures.means; fits = c.node-node.ensures.placed; head = c.in-Some.ensures } in
    let is : c.index-values-id.result ≡ value_at_id vs id = c.index-values-id.is ∙ get_or_default vs id.0 _ no_value c.requires.valued in
    let value = All-contains (IsValueOf t v vs) ids id values.each i in
    constant_noted t c.ids_are_unique.ensures apart c.heads_take_their_arguments.ensures v ids vs values id (shape_of n) c.in-Some.symbol x done tables c.set_default.new.tables.items h
    (c.set_default.ensures.named t.sorts h.named (subst (IsNamed t.sorts) (sym is) value.named))
    (nil_from_length n.arguments.items (eqb-true (length n.arguments.items) 0 (sym c.is_empty.ensures ∙ c.if-is_empty.true)))
    (c.set_default.ensures.means t.sorts ∙ ap (λ (y : CodeValue). default_put (meant t.sorts tables) c.in-Some.symbol.0 (value_meant t.sorts y)) is)

pub returns : goal.returns
returns c v ids done values i h =
    let t = c.args.table.now in
    let n = c.node-node.result.now in
    let vs = c.args.values.now in
    let id = c.args.id in
    let k = c.in-Some.symbol in
    let tables = c.args.tables.now.items in
    let different = c.ids_are_unique.ensures in
    let apart = (subst (λ (d : SymbolsView). AreDeclared d.sorts d.symbols) c.symbols.ensures c.are_declared.ensures).names_apart in
    let x : IsApplication t ids id (shape_of n) k = record { there = c.requires.there; listed = i; means = c.node-node.ensures.means; fits = c.node-node.ensures.placed; head = c.in-Some.ensures } in
    let is : c.index-values-id.result ≡ value_at_id vs id = c.index-values-id.is ∙ get_or_default vs id.0 _ no_value c.requires.valued in
    let value = All-contains (IsValueOf t v vs) ids id values.each i in
    let valued = argument_valued t different apart c.heads_take_their_arguments.ensures v ids vs values id (shape_of n) k x in
    let found : c.in_ok-arguments.arguments.items ≡ map (value_at_id vs) n.arguments.items = c.in_ok-arguments.ensures ∙ ap (map (value_at_id vs)) c.as_slice.ensures in
    let each_named : All (IsNamed t.sorts) (map (value_at_id vs) n.arguments.items) =
    All-map (IsNamed t.sorts) (value_at_id vs) n.arguments.items (All-weaker (Contains n.arguments.items) (λ y. IsNamed t.sorts (value_at_id vs y)) (λ y j. (valued y j).named) n.arguments.items (All-contains_itself n.arguments.items)) in
    let put : List CodeValue → CodeValue → List Table = λ xs y. row_put (meant t.sorts tables) k.0 (record { arguments = values_meant t.sorts xs; value = value_meant t.sorts y }) in
    row_noted t different apart c.heads_take_their_arguments.ensures v ids vs values id (shape_of n) k x done tables c.add_row.new.tables.items h
    (c.in_ok-add_row.ensures.named t.sorts h.named (record { arguments = subst (All (IsNamed t.sorts)) (sym found) each_named; value = subst (IsNamed t.sorts) (sym is) value.named }))
    (λ e. false≢true (sym c.if-is_empty.false ∙ c.is_empty.ensures ∙ ap (λ (xs : List TermId). eqb (length xs) 0) e))
    (c.in_ok-add_row.ensures.means t.sorts ∙ ap (λ xs. put xs c.index-values-id.result) found ∙ ap (put (map (value_at_id vs) n.arguments.items)) is)
