-- What reading a model comes to.
use Rattle.std.specs.Prelude.{◌≡◌, ℕ, List, [], Result, Ok, Err}
use Rattle.spec_text.specs.Places.{IsPlaceOf}
use Rattle.spec_text.specs.Trees.{Trees}
use Rattle.spec_proofs.specs.Texts.{Ending}
use Rattle.spec_sorts.specs.Signatures.{Signature}
use Rattle.spec_model_files.specs.Faults.{model_fault}
use Rattle.spec_model_files.specs.Definitions.{DefinedSymbol, definitions_read, interpretation_of}
use Rattle.spec_model_files.specs.Texts.{ends, IsModelText}
use Rattle.spec_model_files.specs.Verdicts.{IsModelReading, IsFirstModelFault}
use Rattle.term_core.specs.Tables.{TableView}
use Rattle.term_walks.specs.declared.values.Interp.{Interp}
use Rattle.term_walks.specs.Valuations.{HasTables, HasSymbolTables}
use Rattle.model_read.specs.declared.errors.LocatedFault.{LocatedFault}
use Rattle.model_read.specs.declared.errors.ReadError.{ReadError}
use Rattle.model_read.specs.declared.errors.ReadError.TheVariants as errors
use Rattle.model_read.specs.declared.errors.ModelStop.{ModelStop}
use Rattle.model_read.specs.declared.errors.ModelStop.TheVariants as stops
use Rattle.model_read.specs.declared.reader.Reader.{Reader}
use Rattle.model_read.specs.declared.tables.Tables.{Tables}
use Rattle.model_read.specs.Answers.{located_view}
use Rattle.model_read.specs.Bodies.{with_values}
use Rattle.model_read.specs.Definitions.{defined_names, AreTables}
use Rattle.model_read.specs.Remaining.{text_of, AreRemaining}

-- A model's text says an interpretation of a signature's symbols, and tables by their numbers have it.
pub record SaysTables (t : TableView) (g : Signature) (text : List ℕ) (interp : Interp) : Type 0 where
  -- the definitions
  pub definitions : List DefinedSymbol
  -- the text is read as these
  pub reading : IsModelReading g text (Ok definitions)
  -- there is a table for each symbol
  pub tables : HasTables t interp
  -- each is its symbol's in the interpretation that they say
  pub represents : HasSymbolTables t interp (interpretation_of g definitions)

-- the interpretation that a model's text says, or its first fault with its place; out of memory says nothing
abbrev pub ReadsModel : TableView → Signature → List ℕ → Result Interp ModelStop → Type 0
ReadsModel t g text (Ok interp) = SaysTables t g text interp
ReadsModel t g text (Err (stops.Fault f)) = IsFirstModelFault g text (model_fault f.place.offset f.kind)
    × IsPlaceOf text f.place
ReadsModel t g text (Err stops.Memory) = Unit {0}

-- the same with the fault by its offset
abbrev pub ReadsTables : TableView → Signature → List ℕ → Result Interp ReadError → Type 0
ReadsTables t g text (Ok interp) = SaysTables t g text interp
ReadsTables t g text (Err (errors.Fault f)) = IsFirstModelFault g text (located_view f)
ReadsTables t g text (Err errors.Memory) = Unit {0}

-- What is to come of a text is read after definitions that were read before it.
pub record IsReadUpTo (g : Signature) (text : List ℕ) (r : Reader) (ds : List DefinedSymbol) : Type 0 where
  -- the reader is of the text
  pub whole : text_of r ≡ text
  -- definitions that are to come, with those before them, are all of the text
  pub all : (ts : Trees) (e : Ending) → AreRemaining r ts e → (us : Trees) × IsModelText text us (ends e)
      × (definitions_read g [] us ≡ with_values ds (definitions_read g (defined_names ds) ts))

-- Definitions were read up to here, and tables are those by them.
pub record HasDefinitions (t : TableView) (g : Signature) (text : List ℕ) (r : Reader) (m : Tables) : Type 0 where
  -- the definitions
  pub definitions : List DefinedSymbol
  -- they were read
  pub read : IsReadUpTo g text r definitions
  -- the tables are those by them
  pub made : AreTables t g definitions m.tables.items m.marks.items

-- All definitions were read, and tables are those by them.
pub record HasAllDefinitions (t : TableView) (g : Signature) (text : List ℕ) (m : Tables) : Type 0 where
  -- the definitions
  pub definitions : List DefinedSymbol
  -- the text is read as these
  pub reading : IsModelReading g text (Ok definitions)
  -- the tables are those by them
  pub made : AreTables t g definitions m.tables.items m.marks.items

-- all definitions were read, or the text has this first fault, unless memory ran out
abbrev pub ReadsRest : TableView → Signature → List ℕ → Result (Unit {0}) ReadError → Tables → Type 0
ReadsRest t g text (Ok u) m = HasAllDefinitions t g text m
ReadsRest t g text (Err (errors.Fault f)) m = IsFirstModelFault g text (located_view f)
ReadsRest t g text (Err errors.Memory) m = Unit {0}

-- the fault has its place
abbrev pub IsPlaced : List ℕ → LocatedFault → ModelStop → Type 0
IsPlaced text fault (stops.Fault f) = (f.kind ≡ fault.kind) × (f.place.offset ≡ fault.offset) × IsPlaceOf text f.place
IsPlaced text fault stops.Memory = ⊥
