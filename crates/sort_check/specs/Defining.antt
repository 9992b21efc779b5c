-- Parameters of a definition, and what a definition is read as, by the numbers of a table.
use Rattle.std.specs.Prelude.{◌≡◌, List, length, Vec, Result, Ok, Err}
use Rattle.std.specs.declared.alloc.Global.{Global}
use Rattle.spec_text.specs.Bytes.{Name}
use Rattle.spec_text.specs.Answers.{Answer}
use Rattle.spec_sorts.specs.Terms.{Sort}
use Rattle.spec_sorts.specs.Signatures.{Definition, Signature}
use Rattle.spec_reading.specs.Reading.{Bound}
use Rattle.no_memory.specs.declared.NoMemory.{NoMemory}
use Rattle.term_core.specs.declared.ids.TermId.{TermId}
use Rattle.term_core.specs.declared.sorts.Sort.{Sort as TableSort}
use Rattle.term_core.specs.Symbols.{HaveSortsIn, sorts_meant}
use Rattle.term_core.specs.Tables.{TableView, AreIn}
use Rattle.term_reader.specs.declared.faults.ReadError.{ReadError}
use Rattle.sort_check.specs.Bindings.{BindingsView, bound_at, paired}
use Rattle.sort_check.specs.Reads.{Store, ScopeMeansWith, HasFault}
use Rattle.sort_check.specs.Walks.{AllMean, terms_of_definitions}

-- names with sorts of a table, oldest first
abbrev pub parameters_at : TableView → List Name → List TableSort → List (Name × Sort)
parameters_at t ns ss = paired ns (sorts_meant t.sorts ss)

-- The parameters are read: as many names as sorts, which are there.
pub record HasParameters (t : TableView) (answer : Answer (List (Name × Sort))) (ns : List Name)
    (ss : List TableSort) : Type 0 where
  -- a sort for each name
  pub long : length ns ≡ length ss
  -- the sorts are there
  pub there : HaveSortsIn t.sorts ss
  -- they are those that the text has
  pub read : answer ≡ Ok (parameters_at t ns ss)

-- the parameters are read, or have this first fault
abbrev pub EndsParameters : TableView → Answer (List (Name × Sort))
    → Result (List Name × Vec TableSort Global) ReadError → Type 0
EndsParameters t answer (Ok v) = HasParameters t answer v.0 v.1.items
EndsParameters t answer (Err stop) = HasFault answer stop

-- the bound names, where there is memory
abbrev pub EndsBinding : TableView → Bound → Result BindingsView NoMemory → Type 0
EndsBinding t b (Ok v) = AreIn t v.terms × (bound_at t v ≡ b)
EndsBinding t b (Err e) = Unit {0}

-- The definition is read, and the scope has what it makes, by the numbers of its terms.
pub record HasMade (s : Signature) (new : Store) (answer : Answer (List Definition)) (ids : List TermId) : Type 0 where
  -- what it makes
  pub definitions : List Definition
  -- it is that
  pub read : answer ≡ Ok definitions
  -- it is there
  pub represents : ScopeMeansWith new s definitions
  -- the numbers of its terms
  pub terms : AllMean new.table ids (terms_of_definitions definitions)

-- the definition is read, or has this first fault
abbrev pub EndsMade : Signature → Store → Answer (List Definition) → Result (Vec TermId Global) ReadError → Type 0
EndsMade s new answer (Ok v) = HasMade s new answer v.items
EndsMade s new answer (Err stop) = HasFault answer stop
