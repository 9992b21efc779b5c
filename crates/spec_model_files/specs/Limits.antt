-- When an interpretation is within the bounds of model files, and its text no longer than it may be.
use Rattle.std.specs.Prelude.{◌≡◌, ◌<◌, true, false, List, All}
use Rattle.spec_text.specs.Readings.{is_long}
use Rattle.spec_numbers.specs.Bounds.{fits}
use Rattle.spec_sorts.specs.Terms.{Symbol}
use Rattle.spec_sorts.specs.Values.{Value, truth, number, element, TableRow, Table, Interpretation}
use Rattle.spec_sorts.specs.Values.{Interprets}
use Rattle.spec_sorts.specs.Signatures.{Signature, symbols_in}
use Rattle.spec_models.specs.Models.{model_text}
use Rattle.spec_models.specs.Meaning.{IsSymbolIn}
use Rattle.spec_model_files.specs.Values.{element_bound}

-- the parts of a fraction are within the bound, and so is the number of an element
abbrev pub IsValueWithin : Value → Type 0
IsValueWithin (truth b) = Unit {0}
IsValueWithin (number q) = fits q ≡ true
IsValueWithin (element n k) = k < element_bound

-- A row of such values.
pub record IsRowWithin (r : TableRow) : Type 0 where
  -- its arguments
  pub arguments : All IsValueWithin r.arguments
  -- its value
  pub value : IsValueWithin r.value

-- A table of such values.
pub record IsTableWithin (t : Table) : Type 0 where
  -- its rows
  pub rows : All IsRowWithin t.rows
  -- its default
  pub default : IsValueWithin t.default

-- the tables of symbols have such values
abbrev pub AreTablesWithin : Interpretation → List Symbol → Type 0
AreTablesWithin i symbols = All (λ (s : Symbol). IsTableWithin (i.table s.name)) symbols

-- An interpretation whose text is a model file of a signature's symbols.
pub record IsPrintable (i : Interpretation) (g : Signature) : Type 0 where
  -- the symbols can be written, with their sorts
  pub symbols : All (IsSymbolIn g) (symbols_in g)
  -- it has tables of them
  pub tables : Interprets i (symbols_in g)
  -- the values in these are within the bounds
  pub within : AreTablesWithin i (symbols_in g)
  -- its text is no longer than it may be
  pub short : is_long (model_text i (symbols_in g)) ≡ false
