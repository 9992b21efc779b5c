-- The names that `:named` gives, and what they come to.
use Rattle.std.specs.Prelude.{◌≡◌, ◌+◌, List, [], ◌∷◌, ◌++◌, length, Option, Some, None, Result, Ok, Err}
use Rattle.spec_text.specs.Bytes.{Name}
use Rattle.spec_text.specs.Answers.{Answer}
use Rattle.spec_text.specs.Trees.{Tree, atom}
use Rattle.spec_text.specs.Shapes.{Word}
use Rattle.spec_sorts.specs.Forms.{Next, a_keyword, a_name}
use Rattle.spec_sorts.specs.Terms.{Term}
use Rattle.spec_sorts.specs.Signatures.{Definition, Signature, known_as, sort_as, with_definitions}
use Rattle.spec_reading.specs.Reading as reading
use Rattle.term_core.specs.declared.ids.TermId.{TermId}
use Rattle.term_core.specs.Tables.{TableView, term_at}
use Rattle.term_reader.specs.declared.faults.ReadError.{ReadError}
use Rattle.term_reader.specs.Forms.{next_after}
use Rattle.term_reader.specs.Scopes.{ScopeView, SortMeans, FunctionMeans, sort_under, function_under}
use Rattle.sort_check.specs.declared.naming.Annotated as code
use Rattle.sort_check.specs.Reads.{HasFault}
use Rattle.sort_check.specs.Walks.{AllMean, terms_of_definitions}

-- In a table the scope has the names of a signature.
pub record NamesMean (t : TableView) (v : ScopeView) (s : Signature) : Type 0 where
  -- the names of sorts
  pub sorts : (n : Name) → SortMeans t (sort_under v n) (sort_as s n)
  -- the names of functions
  pub functions : (n : Name) → FunctionMeans t (function_under v n) (known_as s n)
  -- as many names are declared and defined
  pub count : length v.sort_names + length v.names ≡ length s

-- a term with attributes, with its text
abbrev pub annotated_meant : TableView → Tree → code.Annotated → reading.Annotated
annotated_meant t text a = record { at = a.at; text = text; term = term_at t a.id; may_name = a.may_name }

-- The names were given, to the term of that number.
pub record HasNamed (t : TableView) (s : Signature) (new : ScopeView) (ids : List TermId
    × List TermId) (answer : Answer (List Definition)) : Type 0 where
  -- the definitions that they make
  pub made : List Definition
  -- they are those
  pub read : answer ≡ Ok made
  -- the scope has them
  pub represents : NamesMean t new (with_definitions s made)
  -- so do the numbers of terms that got names
  pub named : (us : List Term) → AllMean t ids.0 us → AllMean t ids.1 (us ++ terms_of_definitions made)

-- the names were given, or have this first fault
abbrev pub EndsNaming : TableView → Signature → ScopeView → List TermId × List TermId → Answer (List Definition)
    → Result (Unit {0}) ReadError → Type 0
EndsNaming t s new ids answer (Ok u) = HasNamed t s new ids answer
EndsNaming t s new ids answer (Err stop) = HasFault answer stop

-- the word that is where a name is wanted
abbrev pub wanted_word : Next → Tree → Option Word
wanted_word a_name (atom at k n) = Some (record { at = at; kind = k; bytes = n })
wanted_word next t = None

-- what there is, or else a keyword alone
abbrev pub or_keyword : Option Next → Next
or_keyword (Some then) = then
or_keyword None = a_keyword

-- what may come after an item, wherever it is
abbrev pub next_word : Next → Tree → Next
next_word next t = or_keyword (next_after next t)

-- the word that there is, if there is one
abbrev pub listed_word : Option Word → List Word
listed_word (Some x) = x ∷ []
listed_word None = []
