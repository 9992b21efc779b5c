-- What reading a sort comes to.
use Rattle.std.specs.Prelude.{◌≡◌, Result, Ok, Err}
use Rattle.spec_text.specs.Answers.{Answer}
use Rattle.spec_sorts.specs.Terms.{Sort}
use Rattle.term_core.specs.declared.sorts.Sort.{Sort as TableSort}
use Rattle.term_core.specs.Symbols.{HasSortIn, sort_meant}
use Rattle.term_core.specs.Tables.{TableView}
use Rattle.term_reader.specs.declared.faults.TermFault.{TermFault}
use Rattle.term_reader.specs.Names.{located_of}

-- the answer is this sort, which is there, or this fault
abbrev pub IsSortOf : TableView → Answer Sort → Result TableSort TermFault → Type 0
IsSortOf t answer (Ok s) = HasSortIn t.sorts s × (answer ≡ Ok (sort_meant t.sorts s))
IsSortOf t answer (Err e) = answer ≡ Err (located_of e)
