-- How the model of a search is made: values by the numbers of terms, and tables, term after term.
use Rattle.std.specs.Prelude.{◌≡◌, ◌≢◌, ◌<◌, ◌++◌, ◌∷◌, ℕ, false, List, [], length, get_or, map, slice_set, All, Option}
use Rattle.std.specs.Prelude.{Some, None}
use Rattle.spec_text.specs.Bytes.{Name}
use Rattle.spec_sorts.specs.Terms.{Term, Symbol}
use Rattle.spec_sorts.specs.Values.{Value, TableRow, Table}
use Rattle.spec_sorts.specs.Subsets.{AreAmong, IsClosed}
use Rattle.spec_valuations.specs.Tables.{Valuation, default_value, table_of}
use Rattle.term_core.specs.declared.ids.TermId.{TermId}
use Rattle.term_core.specs.declared.ids.SymbolId.{SymbolId}
use Rattle.term_core.specs.declared.nodes.Head.{Head}
use Rattle.term_core.specs.declared.nodes.Head.TheVariants as heads
use Rattle.term_core.specs.Tables.{TableView, term_at, AreIn, clause_at}
use Rattle.term_walks.specs.declared.values.Value.{Value as CodeValue}
use Rattle.term_walks.specs.declared.values.Value.TheVariants as values
use Rattle.term_walks.specs.declared.values.Table.{Table as CodeTable}
use Rattle.term_walks.specs.Valuations.{value_meant, no_table, table_meant, IsNamed, IsTableNamed}
use Rattle.search_model.specs.Models.{symbol_in}

-- what no number of values means
abbrev pub no_value : CodeValue
no_value = values.Bool false

-- the value of a number
abbrev pub value_at_id : List CodeValue → TermId → CodeValue
value_at_id vs id = get_or vs id.0 no_value

-- There is a value of a term by the term's number, and it is the term's.
pub record IsValueOf (t : TableView) (v : Valuation) (vs : List CodeValue) (id : TermId) : Type 0 where
  -- it is there
  pub there : id.0 < length vs
  -- it is the term's
  pub means : value_meant t.sorts (value_at_id vs id) ≡ v (term_at t id)
  -- an element is of a sort of the table
  pub named : IsNamed t.sorts (value_at_id vs id)

-- There are values of listed terms, which have their arguments among them.
pub record HasValues (t : TableView) (v : Valuation) (ids : List TermId) (vs : List CodeValue) : Type 0 where
  -- the terms are of the table
  pub there : AreIn t ids
  -- with each its arguments are listed
  pub closed : IsClosed (clause_at t ids)
  -- each has its value
  pub each : All (IsValueOf t v vs) ids

-- the tables that code's mean, in order
abbrev pub meant : List Name → List CodeTable → List Table
meant sorts tables = map (table_meant sorts) tables

-- the table with a row more
abbrev pub with_table_row : Table → TableRow → Table
with_table_row x r = record { rows = x.rows ++ r ∷ []; default = x.default }

-- the table with another default
abbrev pub with_default : Table → Value → Table
with_default x d = record { rows = x.rows; default = d }

-- the tables with a row more in one of them
abbrev pub row_put : List Table → ℕ → TableRow → List Table
row_put tables k r = slice_set tables k (with_table_row (get_or tables k no_table) r)

-- the tables with another default in one of them
abbrev pub default_put : List Table → ℕ → Value → List Table
default_put tables k d = slice_set tables k (with_default (get_or tables k no_table) d)

-- the table of a symbol that no listed term has as head
abbrev pub blank : Symbol → Table
blank s = record { rows = []; default = default_value s.result }

-- Such tables of the first symbols.
pub record AreBlank (t : TableView) (n : ℕ) (tables : List CodeTable) : Type 0 where
  -- there are so many
  pub count : length tables ≡ n
  -- elements are of sorts of the table
  pub named : All (IsTableNamed t.sorts) tables
  -- each is its symbol's
  pub each : (k : ℕ) → k < n → get_or (meant t.sorts tables) k no_table ≡ blank (symbol_in t k)

-- Tables of all symbols by the values of terms.
pub record AreTables (t : TableView) (v : Valuation) (done : List Term) (tables : List CodeTable) : Type 0 where
  -- the terms are of the table
  pub listed : AreAmong done t.terms
  -- there is a table for each symbol, and no other
  pub count : length tables ≡ length t.symbols
  -- elements are of sorts of the table
  pub named : All (IsTableNamed t.sorts) tables
  -- each is its symbol's
  pub each : (k : ℕ) → k < length t.symbols → get_or (meant t.sorts tables) k no_table ≡ table_of v (symbol_in t k) done

-- the head is this symbol, or else none
abbrev pub IsApplied : Head → Option SymbolId → Type 0
IsApplied h None = (s : SymbolId) → h ≢ heads.Apply s
IsApplied h (Some s) = h ≡ heads.Apply s
