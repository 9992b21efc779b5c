-- The tables with the row of one listed term more.
use Rattle.std.proofs.Common.{◌≡◌, true, List, [], ◌∷◌, ◌++◌, get_or, map, All, Contains, refl, sym, ap, ◌∙◌, subst}
use Rattle.std.proofs.lemmas.List.Elements.{All-contains, Contains-get_or}
use Rattle.spec_text.proofs.Members.{to_image}
use Rattle.spec_sorts.specs.Terms.{Sort, Symbol, Head, Apply, Term, Terms, app, nil, terms_of, list_of, sort_of}
use Rattle.spec_sorts.specs.Values.{TableRow}
use Rattle.spec_sorts.specs.Subsets.{arguments_of}
use Rattle.spec_sorts.proofs.General.{list_of-terms_of}
use Rattle.spec_sorts.proofs.SameTerms.{one_sorts}
use Rattle.spec_valuations.specs.Tables.{Valuation, values_by}
use Rattle.term_core.specs.declared.ids.TermId.{TermId}
use Rattle.term_core.specs.declared.ids.SymbolId.{SymbolId}
use Rattle.term_core.specs.declared.nodes.Head.TheVariants as heads
use Rattle.term_core.specs.NameLists.{HaveNoTwice}
use Rattle.term_core.specs.Symbols.{names_of, IsSymbol}
use Rattle.term_core.specs.Tables.{TableView, term_at, IsIn, clause_at, head_meant, takes, HasHead, Shape, ShapeFits, shape_term, AreDifferent}
use Rattle.term_walks.specs.declared.values.Value.{Value as CodeValue}
use Rattle.term_walks.specs.declared.values.Table.{Table as CodeTable}
use Rattle.term_walks.specs.Valuations.{no_table, value_meant, values_meant, IsTableNamed}
use Rattle.search_model.specs.Models.{symbol_in}
use Rattle.search_model.specs.Made.{value_at_id, IsValueOf, HasValues, meant, with_table_row, with_default, row_put, default_put, AreTables}
use Rattle.search_model.proofs.SymbolRows.{no_arguments, table_with_row, table_with_default}
use Rattle.search_model.proofs.TablesMade.{tables_put, valued, arguments_valued}

-- where there are arguments there are parameters
some_parameters : (t : TableView) (ss : List Sort) (xs : List TermId) → (xs ≡ [] → ⊥) → ss ≡ map sort_of (clause_at t xs) → (p : Sort) × (ps : List Sort) × (ss ≡ p ∷ ps)
some_parameters t ss [] some e = absurd (some refl)
some_parameters t ss (x ∷ xs) some e = (sort_of (term_at t x), map sort_of (clause_at t xs), e)

-- each head of the table's terms takes its arguments
abbrev TakeArguments : TableView → Type 0
TakeArguments t = (h : Head) (ts : Terms) → Contains t.terms (app h ts) → takes h (map sort_of (list_of ts)) ≡ true

-- A listed term that a symbol heads, among values of listed terms.
pub record IsApplication (t : TableView) (ids : List TermId) (id : TermId) (s : Shape) (k : SymbolId) : Type 0 where
  -- it is a term of the table
  pub there : IsIn t id
  -- which is listed
  pub listed : Contains ids id
  -- and written so
  pub means : term_at t id ≡ shape_term t s
  -- what it names is there
  pub fits : ShapeFits t s
  -- the symbol is its head
  pub head : s.head ≡ heads.Apply k

module _ (t : TableView) (different : AreDifferent t.terms) (apart : HaveNoTwice (names_of t.symbols)) (taken : TakeArguments t)
    (v : Valuation) (ids : List TermId) (vs : List CodeValue) (values : HasValues t v ids vs)
    (id : TermId) (s : Shape) (k : SymbolId) (h : IsApplication t ids id s k) where
  abbrev f : Symbol
  f = symbol_in t k.0

  abbrev ts : Terms
  ts = terms_of (clause_at t s.arguments)

  abbrev u : Term
  u = term_at t id

  is_there : Contains t.terms u
  is_there = Contains-get_or t.terms id.0 _ h.there

  symbol_there : IsSymbol t.symbols k
  symbol_there = subst (HasHead t) h.head h.fits.head

  term_is : u ≡ app (Apply f) ts
  term_is = h.means ∙ ap (λ g. app (head_meant t g) ts) h.head

  parameters_are : f.parameters ≡ map sort_of (clause_at t s.arguments)
  parameters_are = one_sorts f.parameters (map sort_of (clause_at t s.arguments)) (subst (λ g. takes (head_meant t g) (map sort_of (clause_at t s.arguments)) ≡ true) h.head h.fits.sorts)

  its_value : IsValueOf t v vs id
  its_value = All-contains (IsValueOf t v vs) ids id values.each h.listed

  -- an argument has its value
  pub argument_valued : (x : TermId) → Contains s.arguments x → IsValueOf t v vs x
  argument_valued x i =
      let among : Contains (clause_at t s.arguments) (term_at t x) = to_image (term_at t) s.arguments x i in
      let below : Contains (arguments_of u) (term_at t x) = subst (λ y. Contains (arguments_of y) (term_at t x)) (sym term_is) (subst (λ ys. Contains ys (term_at t x)) (sym (list_of-terms_of (clause_at t s.arguments))) among) in
      valued t v ids vs values different x (All-contains (IsIn t) s.arguments x h.fits.arguments i) (values.closed u (to_image (term_at t) ids id h.listed) (term_at t x) below)

  module _ (done : List Term) (tables new : List CodeTable) (old : AreTables t v done tables) (named : All (IsTableNamed t.sorts) new) where
    -- a term with arguments gives a row
    pub row_noted : (s.arguments ≡ [] → ⊥) → meant t.sorts new ≡ row_put (meant t.sorts tables) k.0 (record { arguments = values_meant t.sorts (map (value_at_id vs) s.arguments); value = value_meant t.sorts (value_at_id vs id) })
        → AreTables t v (done ++ u ∷ []) new
    row_noted some new_is =
        let p = some_parameters t f.parameters s.arguments some parameters_are in
        let x = get_or (meant t.sorts tables) k.0 no_table in
        let r : TableRow = record { arguments = values_meant t.sorts (map (value_at_id vs) s.arguments); value = value_meant t.sorts (value_at_id vs id) } in
        let arguments : values_meant t.sorts (map (value_at_id vs) s.arguments) ≡ values_by v ts =
        arguments_valued t v ids vs values different s.arguments argument_valued ∙ ap (map v) (sym (list_of-terms_of (clause_at t s.arguments))) in
        tables_put t v done u is_there tables old k.0 ts new (with_table_row x r) apart symbol_there term_is new_is
        (table_with_row v f done u x r ts p.0 p.1 (old.each k.0 symbol_there) p.2 term_is (λ i. record { arguments = arguments i; value = its_value.means i }))
        named

    -- a constant gives the default
    pub constant_noted : s.arguments ≡ [] → meant t.sorts new ≡ default_put (meant t.sorts tables) k.0 (value_meant t.sorts (value_at_id vs id)) → AreTables t v (done ++ u ∷ []) new
    constant_noted bare new_is =
        let x = get_or (meant t.sorts tables) k.0 no_table in
        let d = value_meant t.sorts (value_at_id vs id) in
        let none : f.parameters ≡ [] = parameters_are ∙ ap (λ xs. map sort_of (clause_at t xs)) bare in
        let constant : u ≡ app (Apply f) nil = term_is ∙ ap (λ xs. app (Apply f) (terms_of (clause_at t xs))) bare in
        tables_put t v done u is_there tables old k.0 ts new (with_default x d) apart symbol_there term_is new_is
        (table_with_default v f done u x d (old.each k.0 symbol_there) none (λ us i. no_arguments f us none (taken (Apply f) us (old.listed (app (Apply f) us) i))) constant its_value.means)
        named
