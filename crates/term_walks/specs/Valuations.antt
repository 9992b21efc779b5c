-- The values of a table's terms.
use Rattle.std.specs.Prelude.{◌≡◌, ◌<◌, ◌≤◌, false, List, [], length, map, All, slice_index_or, Result, Ok, Err}
use Rattle.spec_text.specs.Bytes.{Name}
use Rattle.spec_numbers.specs.Bounds.{Overflow}
use Rattle.spec_sorts.specs.Values.{Value, truth, number, element, TableRow, Table, Interpretation}
use Rattle.ratio128.specs.declared.wide.Wide.{Wide}
use Rattle.ratio128.specs.Meant.{fraction, overflow}
use Rattle.term_core.specs.declared.ids.SymbolId.{SymbolId}
use Rattle.term_core.specs.declared.nodes.Head.{Head}
use Rattle.term_core.specs.declared.nodes.Head.TheVariants as heads
use Rattle.term_core.specs.NameLists.{HaveNoTwice}
use Rattle.term_core.specs.Symbols.{sort_name, IsSort, symbol_at, IsSymbol}
use Rattle.term_core.specs.Tables.{TableView}
use Rattle.term_walks.specs.declared.values.Value.{Value as CodeValue}
use Rattle.term_walks.specs.declared.values.Value.TheVariants as values
use Rattle.term_walks.specs.declared.values.ValueRow.{ValueRow as CodeRow}
use Rattle.term_walks.specs.declared.values.Table.{Table as CodeTable}
use Rattle.term_walks.specs.declared.values.Interp.{Interp}
use Rattle.term_walks.specs.declared.values.ValueStop.{ValueStop}
use Rattle.term_walks.specs.declared.values.ValueStop.TheVariants as stops

-- the value that the code's word means
abbrev pub value_meant : List Name → CodeValue → Value
value_meant sorts (values.Bool b) = truth b
value_meant sorts (values.Number q) = number (fraction q)
value_meant sorts (values.Element s k) = element (sort_name sorts s) k

-- the values, in order
abbrev pub values_meant : List Name → List CodeValue → List Value
values_meant sorts vs = map (value_meant sorts) vs

-- the value that the code's word means, or the overflow that it tells
abbrev pub answer_meant : List Name → Result CodeValue Wide → Result Value Overflow
answer_meant sorts (Ok v) = Ok (value_meant sorts v)
answer_meant sorts (Err w) = Err (overflow w)

-- the row that the code's means
abbrev pub row_meant : List Name → CodeRow → TableRow
row_meant sorts r = record { arguments = values_meant sorts r.arguments.items; value = value_meant sorts r.value }

-- the table that the code's means
abbrev pub table_meant : List Name → CodeTable → Table
table_meant sorts t = record { rows = map (row_meant sorts) t.rows.items; default = value_meant sorts t.default }

-- what no number of tables means
abbrev pub no_table : Table
no_table = record { rows = []; default = truth false }

-- the tables that the code's mean, in order
abbrev pub tables_meant : List Name → Interp → List Table
tables_meant sorts interp = map (table_meant sorts) interp.tables.items

-- the sort of an element is one of the sorts
abbrev pub IsNamed : List Name → CodeValue → Type 0
IsNamed sorts (values.Element s k) = IsSort sorts s
IsNamed sorts v = Unit {0}

-- so it is with each of the values
abbrev pub AreNamed : List Name → List CodeValue → Type 0
AreNamed sorts vs = All (IsNamed sorts) vs

-- A row of such values.
pub record IsRowNamed (sorts : List Name) (r : CodeRow) : Type 0 where
  -- its arguments
  pub arguments : AreNamed sorts r.arguments.items
  -- its value
  pub value : IsNamed sorts r.value

-- rows of such values
abbrev pub AreRowsNamed : List Name → List CodeRow → Type 0
AreRowsNamed sorts rs = All (IsRowNamed sorts) rs

-- A table of such values.
pub record IsTableNamed (sorts : List Name) (t : CodeTable) : Type 0 where
  -- its rows
  pub rows : AreRowsNamed sorts t.rows.items
  -- its default
  pub default : IsNamed sorts t.default

-- an interpretation has, under each symbol's name, the table of the symbol's number
abbrev pub HasSymbolTables : TableView → Interp → Interpretation → Type 0
HasSymbolTables t interp i = (s : SymbolId) → IsSymbol t.symbols s → i.table (symbol_at t.symbols s).name
    ≡ slice_index_or (tables_meant t.sorts interp) s.0 no_table

-- Tables for the symbols of a table of terms.
pub record HasTables (t : TableView) (interp : Interp) : Type 0 where
  -- there is one for each symbol
  pub count : length t.symbols ≤ length interp.tables.items
  -- the elements in them are of sorts of the table
  pub named : All (IsTableNamed t.sorts) interp.tables.items

-- there is a table for the symbol of a head, if it has one
abbrev pub HasTable : Interp → Head → Type 0
HasTable interp (heads.Apply s) = s.0 < length interp.tables.items
HasTable interp h = Unit {0}

-- Tables of values tell an interpretation of the symbols.
pub record Tells (t : TableView) (interp : Interp) (i : Interpretation) : Type 0 where
  -- no two sorts have one name
  pub apart : HaveNoTwice t.sorts
  -- there are tables
  pub tables : HasTables t interp
  -- the interpretation has them
  pub represents : HasSymbolTables t interp i

-- the value that was found, or the overflow; out of memory says nothing
abbrev pub IsOutcome : List Name → Result CodeValue ValueStop → Result Value Overflow → Type 0
IsOutcome sorts (Ok v) a = a ≡ Ok (value_meant sorts v)
IsOutcome sorts (Err (stops.Wide w)) a = a ≡ Err (overflow w)
IsOutcome sorts (Err stops.Memory) a = Unit {0}
