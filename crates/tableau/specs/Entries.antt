-- What entries and rows of the code mean.
use Rattle.std.specs.Prelude.{List, map}
use Rattle.spec_tableaux.specs.Rows as definitions
use Rattle.spec_tableaux.specs.Numbers.{Number}
use Rattle.tableau.specs.declared.entries.Entry.{Entry}
use Rattle.tableau.specs.declared.entries.Row.{Row}
use Rattle.tableau.specs.Numbers.{number_of}

-- the meaning of an entry
abbrev pub entry_of : Entry → definitions.Entry Number
entry_of e = record { variable = e.variable; coefficient = number_of e.coefficient }

-- the meaning of entries
abbrev pub entries_of : List Entry → List (definitions.Entry Number)
entries_of es = map entry_of es

-- the meaning of a row
abbrev pub row_meant : Row → definitions.Row Number
row_meant r = record { basic = r.basic; entries = entries_of r.entries.items }

-- the meaning of rows
abbrev pub rows_of : List Row → List (definitions.Row Number)
rows_of rs = map row_meant rs
