-- What the parts of a definition are read as, and what tables mean.
use Rattle.std.specs.Prelude.{◌≡◌, not, false, Bool, List, length, map, slice_index_or, All, Option, Some, None, Ok}
use Rattle.spec_text.specs.Answers.{◌>>=◌}
use Rattle.spec_text.specs.Bytes.{Name, among}
use Rattle.spec_text.specs.Trees.{Tree}
use Rattle.spec_sorts.specs.Terms.{Sort, Symbol}
use Rattle.spec_sorts.specs.Values.{Table}
use Rattle.spec_sorts.specs.Signatures.{Signature}
use Rattle.spec_model_files.specs.declared.ModelKind.TheVariants.{Twice}
use Rattle.spec_model_files.specs.Faults.{ReadModel, require}
use Rattle.spec_model_files.specs.Values.{symbol_read, sort_read}
use Rattle.spec_model_files.specs.Bodies.{body_read}
use Rattle.spec_model_files.specs.Definitions.{DefinedSymbol, defined_name, parameter_list_read, interpretation_of}
use Rattle.term_core.specs.declared.ids.SymbolId.{SymbolId}
use Rattle.term_core.specs.Symbols.{symbol_at, IsSymbol}
use Rattle.term_core.specs.Tables.{TableView}
use Rattle.term_reader.specs.declared.scope.Function.{Function}
use Rattle.term_reader.specs.declared.scope.Function.TheVariants.{Declared}
use Rattle.term_walks.specs.declared.values.Table.{Table as CodeTable}
use Rattle.term_walks.specs.Valuations.{no_table, table_meant, IsTableNamed}
use Rattle.model_read.specs.declared.definitions.SymbolTable.{SymbolTable}
use Rattle.model_read.specs.Shapes.{DefinitionParts}

-- what is read of a parameter of a sort, by the texts of its name and of its sort, where some names are taken
unfoldable pub parameter_by : Signature → List Name → Sort → Tree → Tree → ReadModel Name
parameter_by g names s x t =
    symbol_read x >>= λ w.
    require (not (among names w.bytes)) w.at Twice >>= λ new.
    sort_read g s t >>= λ sort.
    Ok w.bytes

-- the table that is read of the parameters, the sort and the body of a definition of a symbol
unfoldable pub table_by : Signature → Symbol → DefinitionParts → ReadModel Table
table_by g s p =
    parameter_list_read g s.parameters p.parameters >>= λ ps.
    sort_read g s.result p.sort >>= λ result.
    body_read g ps s.result p.body

-- what is read of the parts of a definition
unfoldable pub definition_by : Signature → List Name → DefinitionParts → ReadModel DefinedSymbol
definition_by g names p =
    defined_name g names p.name >>= λ s.
    table_by g s p >>= λ table.
    Ok (record { symbol = s; table = table })

-- the declared symbol that a function is, if it is one
abbrev pub declared_in : Option Function → Option SymbolId
declared_in (Some (Declared id)) = Some id
declared_in f = None

-- a symbol is marked where its name is one of these
abbrev pub AreMarked : List Symbol → List Name → List Bool → Type 0
AreMarked symbols names marks = (s : SymbolId) → IsSymbol symbols s
    → slice_index_or marks s.0 false ≡ among names (symbol_at symbols s).name

-- the symbol and the table that a definition gives
abbrev pub definition_meant : TableView → SymbolTable → DefinedSymbol
definition_meant t d = record { symbol = symbol_at t.symbols d.symbol; table = table_meant t.sorts d.table }

-- the names of what is defined
abbrev pub defined_names : List DefinedSymbol → List Name
defined_names ds = map (λ (d : DefinedSymbol). d.symbol.name) ds

-- Tables of all symbols by definitions, and which of them have one.
pub record AreTables (t : TableView) (g : Signature) (ds : List DefinedSymbol) (tables : List CodeTable)
    (marks : List Bool) : Type 0 where
  -- there is a table for each symbol
  pub count : length tables ≡ length t.symbols
  -- and a mark
  pub marked : length marks ≡ length t.symbols
  -- elements are of sorts of the table
  pub named : All (IsTableNamed t.sorts) tables
  -- each is its symbol's
  pub each : (s : SymbolId) → IsSymbol t.symbols s
      → slice_index_or (map (table_meant t.sorts) tables) s.0 no_table
      ≡ (interpretation_of g ds).table (symbol_at t.symbols s).name
  -- those are marked that are defined
  pub each_marked : AreMarked t.symbols (defined_names ds) marks
