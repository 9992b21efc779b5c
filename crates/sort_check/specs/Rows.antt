-- What reading a row of texts comes to.
use Rattle.std.specs.Prelude.{◌≡◌, List, Vec, Result, Ok, Err}
use Rattle.std.specs.declared.alloc.Global.{Global}
use Rattle.spec_text.specs.Answers.{Answer}
use Rattle.spec_sorts.specs.Signatures.{Signature}
use Rattle.spec_reading.specs.Reading.{Reading, Readings}
use Rattle.term_core.specs.declared.ids.TermId.{TermId}
use Rattle.term_reader.specs.declared.faults.ReadError.{ReadError}
use Rattle.term_reader.specs.Building.{MeansTerm}
use Rattle.sort_check.specs.Walks.{AllMean, terms_of_definitions}
use Rattle.sort_check.specs.Reads.{Store, ScopeMeansWith, HasFault}

-- The row is read, by the numbers of its terms and of the terms that got names.
pub record HasRow (s : Signature) (new : Store) (answer : Answer Readings) (ids : List TermId
    × List TermId) : Type 0 where
  -- what it is read as
  pub readings : Readings
  -- it is that
  pub read : answer ≡ Ok readings
  -- the numbers of its terms
  pub terms : AllMean new.table ids.0 readings.terms
  -- what it defines is there
  pub represents : ScopeMeansWith new s readings.made
  -- the numbers of the terms that it defines
  pub named : AllMean new.table ids.1 (terms_of_definitions readings.made)

-- the row is read, or has this first fault
abbrev pub EndsRow : Signature → Store → Answer Readings → Result (Vec TermId Global × Vec TermId Global) ReadError
    → Type 0
EndsRow s new answer (Ok v) = HasRow s new answer (v.0.items, v.1.items)
EndsRow s new answer (Err stop) = HasFault answer stop

-- The text is read as a term of a sort, by the numbers of its term and of the terms that got names.
pub record HasOne (s : Signature) (new : Store) (answer : Answer Reading) (x : TermId × List TermId) : Type 0 where
  -- what it is read as
  pub reading : Reading
  -- it is that
  pub read : answer ≡ Ok reading
  -- the number of its term
  pub term : MeansTerm new.table reading.term x.0
  -- what it defines is there
  pub represents : ScopeMeansWith new s reading.made
  -- the numbers of the terms that it defines
  pub named : AllMean new.table x.1 (terms_of_definitions reading.made)

-- the text is read, or has this first fault
abbrev pub EndsOne : Signature → Store → Answer Reading → Result (TermId × Vec TermId Global) ReadError → Type 0
EndsOne s new answer (Ok x) = HasOne s new answer (x.0, x.1.items)
EndsOne s new answer (Err stop) = HasFault answer stop

-- there is room, or there is not
abbrev pub EndsRoom : Answer (Unit {0}) → Result (Unit {0}) ReadError → Type 0
EndsRoom answer (Ok u) = answer ≡ Ok tt
EndsRoom answer (Err stop) = HasFault answer stop
