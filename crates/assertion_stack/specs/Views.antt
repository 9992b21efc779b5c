-- What the values mean that reading the parts of commands gives.
use Rattle.std.specs.Prelude.{◌≡◌, List, Vec, Result, Ok, Err}
use Rattle.std.specs.declared.alloc.Global.{Global}
use Rattle.spec_text.specs.Answers.{Answer}
use Rattle.spec_sorts.specs.Terms.{Sort}
use Rattle.term_core.specs.declared.sorts.Sort.{Sort as TableSort}
use Rattle.term_core.specs.Symbols.{HaveSortsIn, sorts_meant}
use Rattle.term_core.specs.Tables.{TableView}
use Rattle.term_reader.specs.declared.faults.ReadError.{ReadError}
use Rattle.term_reader.specs.declared.faults.ReadError.TheVariants.{Fault, Memory}
use Rattle.term_reader.specs.Names.{located_of}

-- the fault is the same; of memory that ran out nothing is stated
abbrev pub Fails : {Y : Type 0} → ReadError → Answer Y → Type 0
Fails (Fault f) read = read ≡ Err (located_of f)
Fails Memory read = Unit {0}

-- the sorts that are read, which are there, or the fault, unless memory ran out
abbrev pub AreSortsOf : TableView → Answer (List Sort) → Result (Vec TableSort Global) ReadError → Type 0
AreSortsOf t read (Ok v) = HaveSortsIn t.sorts v.items × (read ≡ Ok (sorts_meant t.sorts v.items))
AreSortsOf t read (Err stop) = Fails stop read
