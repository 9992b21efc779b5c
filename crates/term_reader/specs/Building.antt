-- Terms that are put into a table.
use Rattle.std.specs.Prelude.{◌≡◌, List, All, Result, Ok, Err}
use Rattle.spec_sorts.specs.Terms.{Sort, Truth, Number, Head, Xor, Implies, Equal, Minus, Divide, Less, AtMost, Term}
use Rattle.spec_sorts.specs.Terms.{pair, sort_of}
use Rattle.spec_sorts.specs.Theory.{unequal, turned}
use Rattle.no_memory.specs.declared.NoMemory.{NoMemory}
use Rattle.term_core.specs.declared.ids.TermId.{TermId}
use Rattle.term_core.specs.Tables.{TableView, declared_in, term_at, IsIn, Extends}
use Rattle.term_reader.specs.declared.building.Binary.{Binary}
use Rattle.term_reader.specs.declared.building.Binary.TheVariants as binaries
use Rattle.term_reader.specs.declared.building.Link.{Link}
use Rattle.term_reader.specs.declared.building.Link.TheVariants as links

-- The table has all that it had, and no sort or symbol more.
pub record KeepsTable (old new : TableView) : Type 0 where
  -- what was there is there still
  pub extends : Extends old new
  -- the sorts and symbols are the same
  pub declared : declared_in new ≡ declared_in old

-- the number is that of the term
abbrev pub MeansTerm : TableView → Term → TermId → Type 0
MeansTerm t u id = IsIn t id × (term_at t id ≡ u)

-- the number of the term, where there is one
abbrev pub EndsBuilding : TableView → Term → Result TermId NoMemory → Type 0
EndsBuilding t u (Ok id) = MeansTerm t u id
EndsBuilding t u (Err e) = Unit {0}

-- The term is there, or there was no memory; the table keeps what it had.
pub record Builds (old new : TableView) (t : Term) (r : Result TermId NoMemory) : Type 0 where
  -- what was there is there still
  pub keeps : KeepsTable old new
  -- the number of the term
  pub ends : EndsBuilding new t r

-- the number is of a term of that sort
abbrev pub IsOf : TableView → Sort → TermId → Type 0
IsOf t s id = IsIn t id × (sort_of (term_at t id) ≡ s)

-- the numbers are of terms of that sort
abbrev pub AreOfSort : TableView → Sort → List TermId → Type 0
AreOfSort t s ids = All (IsOf t s) ids

-- the head of a term of two arguments
abbrev pub binary_head : Binary → Head
binary_head binaries.Xor = Xor
binary_head binaries.Implies = Implies
binary_head binaries.Equal = Equal
binary_head binaries.Minus = Minus
binary_head binaries.Divide = Divide
binary_head binaries.Less = Less
binary_head binaries.AtMost = AtMost

-- the sort is one that the head takes
abbrev pub BinarySort : Binary → Sort → Type 0
BinarySort binaries.Xor s = s ≡ Truth
BinarySort binaries.Implies s = s ≡ Truth
BinarySort binaries.Equal s = Unit {0}
BinarySort b s = s ≡ Number

-- Two terms of one sort that the head takes.
pub record TakesBoth (t : TableView) (b : Binary) (first second : TermId) : Type 0 where
  -- their sort
  pub sort : Sort
  -- it is one that the head takes
  pub suits : BinarySort b sort
  -- the first has it
  pub one : IsOf t sort first
  -- the second has it
  pub other : IsOf t sort second

-- how two terms are linked
abbrev pub link_term : Link → Term → Term → Term
link_term links.Equal t u = pair Equal t u
link_term links.Unequal t u = unequal t u
link_term links.Less t u = pair Less t u
link_term links.AtMost t u = pair AtMost t u
link_term links.Greater t u = turned Less t u
link_term links.AtLeast t u = turned AtMost t u

-- the sort is one of terms that are so linked
abbrev pub LinkSort : Link → Sort → Type 0
LinkSort links.Equal s = Unit {0}
LinkSort links.Unequal s = Unit {0}
LinkSort link s = s ≡ Number

-- Two terms of one sort that can be so linked.
pub record HasPair (t : TableView) (link : Link) (first second : TermId) : Type 0 where
  -- their sort
  pub sort : Sort
  -- terms of it can be so linked
  pub suits : LinkSort link sort
  -- the first has it
  pub one : IsOf t sort first
  -- the second has it
  pub other : IsOf t sort second
