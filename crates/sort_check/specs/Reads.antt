-- What reading terms and definitions comes to, within a limit on names and terms, or with none.
use Rattle.std.specs.Prelude.{◌≡◌, ℕ, List, [], ◌∷◌, ◌++◌, map, Option, Some, None, Vec, Result, Ok, Err}
use Rattle.std.specs.declared.alloc.Global.{Global}
use Rattle.spec_text.specs.declared.Fault.TheVariants.{Full}
use Rattle.spec_text.specs.Answers.{Answer, ◌>>=◌, require}
use Rattle.spec_text.specs.Trees.{Tree, Trees, none, more}
use Rattle.spec_sorts.specs.Terms.{Sort, Term}
use Rattle.spec_sorts.specs.Signatures.{Definition, Signature, with_definitions}
use Rattle.spec_sorts.specs.Subterms.{has_room}
use Rattle.spec_reading.specs.Names.{Setting}
use Rattle.spec_reading.specs.Reading.{Reading, Readings, reading_of_sort}
use Rattle.spec_reading.specs.Definitions.{Parts, definitions_in}
use Rattle.smt_sexpr.specs.Items.{trees_meant, tree_meant}
use Rattle.smt_sexpr.specs.Views.{word_view}
use Rattle.term_core.specs.declared.ids.TermId.{TermId}
use Rattle.term_core.specs.Tables.{TableView, AreIn, clause_at}
use Rattle.term_reader.specs.declared.faults.ReadError.{ReadError}
use Rattle.term_reader.specs.declared.faults.ReadError.TheVariants.{Fault, Memory}
use Rattle.sort_check.specs.declared.reads.Room as code_room
use Rattle.sort_check.specs.declared.reads.FunctionParts as code_parts
use Rattle.term_reader.specs.Names.{located_of}
use Rattle.term_reader.specs.Building.{KeepsTable, MeansTerm}
use Rattle.term_reader.specs.Scopes.{ScopeView, ScopeMeans, Widens}

-- How many names and terms there may be, and where a fault says that there are more.
pub record Room : Type 0 where
  -- the limit, if there is one
  pub limit : Option ℕ
  -- the offset of the command
  pub at : ℕ

-- a room of the code
abbrev pub room_meant : code_room.Room → Room
room_meant r = record { limit = r.limit; at = r.at }

-- the parts of a definition
abbrev pub parts_meant : code_parts.FunctionParts → Parts
parts_meant p = record {
  name = word_view p.name;
  parameters = trees_meant p.parameters;
  result = tree_meant p.result;
  body = tree_meant p.body;
}

-- room for names and for the different subterms of terms, or the fault
abbrev pub within : Room → Signature → List Term → Answer (Unit {0})
within r s ts = fits r.limit
  where
    fits : Option ℕ → Answer (Unit {0})
    fits None = Ok tt
    fits (Some limit) = require (has_room limit s ts) r.at Full

-- texts that are read one after the other, each of a sort: what one defines is known in those after it
unfoldable pub all_of_sort : Setting → Signature → Sort → Trees → Answer Readings
all_of_sort w s sort none = Ok (record { made = []; terms = [] })
all_of_sort w s sort (more t ts) =
    reading_of_sort w s [] sort t >>= λ r.
    all_of_sort w (with_definitions s r.made) sort ts >>= λ rs.
    Ok (record { made = r.made ++ rs.made; terms = r.term ∷ rs.terms })

-- what a text of a sort is read as, where there is room
unfoldable pub roomy_reading : Room → Setting → Signature → Sort → Tree → Answer Reading
roomy_reading room w s sort t =
    reading_of_sort w s [] sort t >>= λ r.
    within room (with_definitions s r.made) (r.term ∷ []) >>= λ fits.
    Ok r

-- what texts of a sort are read as, where there is room
unfoldable pub roomy_readings : Room → Setting → Signature → Sort → Trees → Answer Readings
roomy_readings room w s sort ts =
    all_of_sort w s sort ts >>= λ r.
    within room (with_definitions s r.made) r.terms >>= λ fits.
    Ok r

-- what definitions a definition makes, where there is room
unfoldable pub roomy_definitions : Room → Setting → Signature → Parts → Answer (List Definition)
roomy_definitions room w s d =
    definitions_in w s d >>= λ ds.
    within room (with_definitions s ds) (map (λ (x : Definition). x.term) ds) >>= λ fits.
    Ok ds

-- A table of terms, and a scope over it.
pub record Store : Type 0 where
  -- the table
  pub table : TableView
  -- the scope
  pub scope : ScopeView

-- a table with a scope
abbrev pub store : TableView → ScopeView → Store
store t v = record { table = t; scope = v }

-- the scope represents a signature with definitions
abbrev pub ScopeMeansWith : Store → Signature → List Definition → Type 0
ScopeMeansWith new s ds = ScopeMeans new.table new.scope (with_definitions s ds)

-- The table has all that it had, and the scope too.
pub record StoreGrows (old new : Store) : Type 0 where
  -- the table
  pub keeps : KeepsTable old.table new.table
  -- the scope
  pub widens : Widens old.scope new.scope

-- Both are as they were.
pub record IsSame (old new : Store) : Type 0 where
  -- the table
  pub table : new.table ≡ old.table
  -- the scope
  pub scope : new.scope ≡ old.scope

-- The text is read, by the number of its term.
pub record HasTerm (s : Signature) (new : Store) (answer : Answer Reading) (id : TermId) : Type 0 where
  -- what it is read as
  pub reading : Reading
  -- it is that
  pub read : answer ≡ Ok reading
  -- the number of its term
  pub term : MeansTerm new.table reading.term id
  -- what it defines is there
  pub represents : ScopeMeansWith new s reading.made

-- The texts are read, by the numbers of their terms.
pub record HasTerms (s : Signature) (new : Store) (answer : Answer Readings) (ids : List TermId) : Type 0 where
  -- what they are read as
  pub readings : Readings
  -- they are that
  pub read : answer ≡ Ok readings
  -- the numbers are of the table's
  pub there : AreIn new.table ids
  -- they are those of their terms
  pub terms : clause_at new.table ids ≡ readings.terms
  -- what they define is there
  pub represents : ScopeMeansWith new s readings.made

-- The definition is read, and the scope has what it makes.
pub record HasDefinitions (s : Signature) (new : Store) (answer : Answer (List Definition)) : Type 0 where
  -- what it makes
  pub definitions : List Definition
  -- it is that
  pub read : answer ≡ Ok definitions
  -- it is there
  pub represents : ScopeMeansWith new s definitions

-- the answer is this fault, or there was no memory
abbrev pub HasFault : {A : Type 0} → Answer A → ReadError → Type 0
HasFault answer (Fault f) = answer ≡ Err (located_of f)
HasFault answer Memory = Unit {0}

-- the text is read, or has this fault
abbrev pub EndsTerm : Signature → Store → Answer Reading → Result TermId ReadError → Type 0
EndsTerm s new answer (Ok id) = HasTerm s new answer id
EndsTerm s new answer (Err stop) = HasFault answer stop

-- the texts are read, or have this first fault
abbrev pub EndsTerms : Signature → Store → Answer Readings → Result (Vec TermId Global) ReadError → Type 0
EndsTerms s new answer (Ok v) = HasTerms s new answer v.items
EndsTerms s new answer (Err stop) = HasFault answer stop

-- the definition is read, or has this first fault
abbrev pub EndsDefinition : Signature → Store → Answer (List Definition) → Result (Unit {0}) ReadError → Type 0
EndsDefinition s new answer (Ok u) = HasDefinitions s new answer
EndsDefinition s new answer (Err stop) = HasFault answer stop
