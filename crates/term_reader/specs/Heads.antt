-- Heads of the theories before terms of a table.
use Rattle.std.specs.Prelude.{◌≡◌, true, List, length, map, Result, Ok, Err}
use Rattle.spec_text.specs.Answers.{Answer}
use Rattle.spec_sorts.specs.Terms.{Sort, Truth, Number, Term, sort_of}
use Rattle.spec_sorts.specs.Theory.{Takes, each_of, alike, choice, sorts_fit, takes_count}
use Rattle.term_core.specs.declared.ids.TermId.{TermId}
use Rattle.term_core.specs.declared.theory_heads.TheoryHead.{TheoryHead}
use Rattle.term_core.specs.TheoryHeads.{rule_of}
use Rattle.term_core.specs.Tables.{TableView, term_at, IsIn, AreIn, clause_at}
use Rattle.term_reader.specs.declared.building.Link.{Link}
use Rattle.term_reader.specs.declared.faults.ReadError.{ReadError}
use Rattle.term_reader.specs.declared.faults.ReadError.TheVariants.{Fault, Memory}
use Rattle.term_reader.specs.declared.heads.Takes.{Takes as TakesCode}
use Rattle.term_reader.specs.declared.heads.Takes.TheVariants.{Truths, Numbers, Alike, Choice}
use Rattle.term_reader.specs.Names.{located_of}
use Rattle.term_reader.specs.Building.{KeepsTable, AreOfSort, LinkSort}

-- the sorts that a head takes
abbrev pub takes_meant : TakesCode → Takes
takes_meant Truths = each_of Truth
takes_meant Numbers = each_of Number
takes_meant Alike = alike
takes_meant Choice = choice

-- Arguments that a head takes.
pub record TakesArguments (t : TableView) (h : TheoryHead) (ids : List TermId) : Type 0 where
  -- it takes so many
  pub count : takes_count (rule_of h) (length ids) ≡ true
  -- each is a term of the table
  pub there : AreIn t ids
  -- it takes their sorts
  pub sorts : sorts_fit (rule_of h).takes (map sort_of (clause_at t ids)) ≡ true

-- Arguments of one sort that can be so linked.
pub record AreAlike (t : TableView) (link : Link) (ids : List TermId) : Type 0 where
  -- their sort
  pub sort : Sort
  -- terms of it can be so linked
  pub suits : LinkSort link sort
  -- each has it
  pub each : AreOfSort t sort ids

-- the arguments are numbers
abbrev pub AreNumbers : TableView → List TermId → Type 0
AreNumbers t ids = AreOfSort t Number ids

-- the number of the term, or its first fault, where memory was enough
abbrev pub EndsReading : TableView → Answer Term → Result TermId ReadError → Type 0
EndsReading t answer (Ok id) = IsIn t id × (answer ≡ Ok (term_at t id))
EndsReading t answer (Err (Fault f)) = answer ≡ Err (located_of f)
EndsReading t answer (Err Memory) = Unit {0}

-- The answer, by the number of its term in the table, which keeps what it had.
pub record ReturnsTerm (old new : TableView) (answer : Answer Term) (r : Result TermId ReadError) : Type 0 where
  -- what was there is there still
  pub keeps : KeepsTable old new
  -- the number of the term, or its first fault
  pub ends : EndsReading new answer r
