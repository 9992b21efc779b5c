-- Terms of many arguments that are put into a table.
use Rattle.std.specs.Prelude.{◌≡◌, List, map, All, Vec, Result, Ok, Err}
use Rattle.std.specs.declared.alloc.Global.{Global}
use Rattle.spec_sorts.specs.Terms.{Sort, Truth, Number, Term}
use Rattle.no_memory.specs.declared.NoMemory.{NoMemory}
use Rattle.term_core.specs.declared.ids.TermId.{TermId}
use Rattle.term_core.specs.Tables.{TableView, term_at, AreIn, clause_at}
use Rattle.term_reader.specs.declared.building.Binary.{Binary}
use Rattle.term_reader.specs.declared.building.Binary.TheVariants as binaries
use Rattle.term_reader.specs.declared.building.Link.{Link}
use Rattle.term_reader.specs.Building.{KeepsTable, AreOfSort, HasPair, link_term}

-- each pair can be so linked
abbrev pub AreLinked : TableView → Link → List (TermId × TermId) → Type 0
AreLinked t link ps = All (λ p. HasPair t link p.0 p.1) ps

-- a term for each pair
abbrev pub linked_terms : Link → TableView → List (TermId × TermId) → List Term
linked_terms link t ps = map (λ p. link_term link (term_at t p.0) (term_at t p.1)) ps

-- the numbers of the terms, where there are some
abbrev pub EndsPutting : TableView → List Term → Result (Vec TermId Global) NoMemory → Type 0
EndsPutting t us (Ok v) = AreIn t v.items × (clause_at t v.items ≡ us)
EndsPutting t us (Err e) = Unit {0}

-- The terms are there, or there was no memory; the table keeps what it had.
pub record PutsAll (old new : TableView) (us : List Term) (r : Result (Vec TermId Global) NoMemory) : Type 0 where
  -- what was there is there still
  pub keeps : KeepsTable old new
  -- the numbers of the terms
  pub ends : EndsPutting new us r

-- the head takes two of this sort and gives one
abbrev pub FoldSort : Binary → Sort → Type 0
FoldSort binaries.Xor s = s ≡ Truth
FoldSort binaries.Implies s = s ≡ Truth
FoldSort binaries.Minus s = s ≡ Number
FoldSort binaries.Divide s = s ≡ Number
FoldSort b s = ⊥

-- Arguments that can be taken together by a head of two.
pub record Folds (t : TableView) (head : Binary) (ids : List TermId) : Type 0 where
  -- their sort
  pub sort : Sort
  -- the head takes two of it and gives one
  pub suits : FoldSort head sort
  -- each has it
  pub each : AreOfSort t sort ids
