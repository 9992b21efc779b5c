-- The definitions of a model file, and the interpretation that they say. Source: SMT-LIB 2.6, sections 4.1.8 and 4.2.6;
-- the order of faults, and what symbols without a definition have, are own.
use Rattle.std.specs.Prelude.{◌==◌, ◌&&◌, not, List, [], ◌∷◌, ◌++◌, length, false, Option, Some, None, Ok, codes}
use Rattle.std.specs.Prelude.{if◌then◌else◌}
use Rattle.std.specs.Str.{bytes_eq}
use Rattle.spec_numbers.specs.Fractions.{zero_fraction}
use Rattle.spec_text.specs.Bytes.{Name, among}
use Rattle.spec_text.specs.Shapes.{is_reserved}
use Rattle.spec_text.specs.Trees.{Tree, Trees, atom, list, none, more, offset_of}
use Rattle.spec_text.specs.Answers.{◌>>=◌}
use Rattle.spec_sorts.specs.Terms.{Sort, Truth, Number, Declared, Symbol}
use Rattle.spec_sorts.specs.Values.{Value, truth, number, element, Table, Interpretation}
use Rattle.spec_sorts.specs.Signatures.{Known, declared, Signature, known_as}
use Rattle.spec_model_files.specs.declared.ModelKind.TheVariants.{BadShape, UnknownSymbol, Twice, WrongSort}
use Rattle.spec_model_files.specs.Faults.{ReadModel, wrong, require, found_or}
use Rattle.spec_model_files.specs.Values.{symbol_read, sort_read}
use Rattle.spec_model_files.specs.Bodies.{tree_count, Parameters, everywhere, body_read}

-- A symbol with the table that a definition gives it.
pub record DefinedSymbol : Type 0 where
  -- the symbol
  pub symbol : Symbol
  -- its table
  pub table : Table

-- the declared symbol that a name is, if it is one
abbrev pub declared_symbol : Option Known → Option Symbol
declared_symbol (Some (declared f)) = Some f
declared_symbol k = None

-- the symbol that a definition is for: a declared one, and none of those whose names are given
unfoldable pub defined_name : Signature → List Name → Tree → ReadModel Symbol
defined_name g names t =
    symbol_read t >>= λ w.
    found_or (declared_symbol (known_as g w.bytes)) w.at UnknownSymbol >>= λ f.
    require (not (among names w.bytes)) w.at Twice >>= λ new.
    Ok f

-- the name of a parameter of a sort, which may be any symbol but those given
unfoldable pub parameter_read : Signature → List Name → Sort → Tree → ReadModel Name
parameter_read g names s (list at (more x (more t none)) end) =
    symbol_read x >>= λ w.
    require (not (among names w.bytes)) w.at Twice >>= λ new.
    sort_read g s t >>= λ sort.
    Ok w.bytes
parameter_read g names s t = wrong (offset_of t) BadShape

-- parameters of as many sorts, after those of some names
unfoldable pub parameters_read : Signature → List Name → List Sort → Trees → ReadModel Parameters
parameters_read g names (s ∷ ss) (more t ts) =
    parameter_read g names s t >>= λ n.
    parameters_read g (names ++ n ∷ []) ss ts >>= λ ps.
    Ok ((n, s) ∷ ps)
parameters_read g names ss ts = Ok []

-- a text that has to be the list of parameters of these sorts
unfoldable pub parameter_list_read : Signature → List Sort → Tree → ReadModel Parameters
parameter_list_read g ss (list at ts end) =
    require (tree_count ts == length ss) at WrongSort >>= λ count.
    parameters_read g [] ss ts
parameter_list_read g ss (atom at k n) = wrong at BadShape

-- a definition after those of some names: its shape, then the symbol, the parameters, the sort, and the body
unfoldable pub definition_read : Signature → List Name → Tree → ReadModel DefinedSymbol
definition_read g names
    (list at (more (atom a k m) (more f (more parameters (more sort (more body none))))) end) =
    require (is_reserved k && bytes_eq m (codes "define-fun")) at BadShape >>= λ definition.
    defined_name g names f >>= λ s.
    parameter_list_read g s.parameters parameters >>= λ ps.
    sort_read g s.result sort >>= λ result.
    body_read g ps s.result body >>= λ table.
    Ok (record { symbol = s; table = table })
definition_read g names t = wrong (offset_of t) BadShape

-- definitions after those of some names, from first to last
unfoldable pub definitions_read : Signature → List Name → Trees → ReadModel (List DefinedSymbol)
definitions_read g names none = Ok []
definitions_read g names (more t ts) =
    definition_read g names t >>= λ d.
    definitions_read g (names ++ d.symbol.name ∷ []) ts >>= λ ds.
    Ok (d ∷ ds)

-- the table that definitions give a name, if they give one
abbrev pub table_among : List DefinedSymbol → Name → Option Table
table_among [] n = None
table_among (d ∷ ds) n = if bytes_eq d.symbol.name n then Some d.table else table_among ds n

-- the value that stands for each sort: false, 0, or the first element
abbrev pub usual_value : Sort → Value
usual_value Truth = truth false
usual_value Number = number zero_fraction
usual_value (Declared n) = element n 0

-- the table of a name without a definition: no rows, and the value that stands for the symbol's sort
abbrev pub usual_table : Option Symbol → Table
usual_table (Some f) = everywhere (usual_value f.result)
usual_table None = everywhere (truth false)

-- the table of a name: that of its definition, or the usual one
abbrev pub table_or : Option Table → Option Symbol → Table
table_or (Some t) f = t
table_or None f = usual_table f

-- the interpretation that definitions say of a signature's symbols
abbrev pub interpretation_of : Signature → List DefinedSymbol → Interpretation
interpretation_of g ds = record { table = λ n. table_or (table_among ds n) (declared_symbol (known_as g n)) }
