-- How a search of asserted terms begins, and the facts with which it does.
use Rattle.std.specs.Prelude.{List, [], ◌∷◌, Contains}
use Rattle.spec_sorts.specs.Terms.{Term, negated}
use Rattle.spec_sorts.specs.Literals.{literals_of}
use Rattle.spec_derivations.specs.Examples.{speaking}
use Rattle.term_core.specs.declared.ids.TermId.{TermId}
use Rattle.term_core.specs.Tables.{TableView, term_at}
use Rattle.case_equalities.specs.declared.equalities.CaseEquality.{CaseEquality}
use Rattle.search_loop.specs.declared.search.Search.{Search}
use Rattle.search_loop.specs.Asking.{SearchState}
use Rattle.search_loop.specs.Growing.{IsBegun}
use Rattle.search_loop.specs.Rounds.{HoldsApart}
use Rattle.search_loop.specs.Search.{images}

-- A search of the terms begins, with interface equalities; those of elements are facts.
pub record IsBegunFor (ts : List Term) (s : SearchState) : Type 0 where
  -- the equalities
  pub interface : List Term
  -- it begins
  pub begun : IsBegun s.table (speaking ts interface) [] s.search
  -- with these facts
  pub apart : HoldsApart s.table (speaking ts interface) [] s.search

-- the disjunction and the equality to which its cases lead are atoms
abbrev pub IsOverAtomsOf : List TermId → CaseEquality → Type 0
IsOverAtomsOf atoms x = Contains atoms x.disjunction × Contains atoms x.equality

-- that the disjunction is false or the equality true is a clause of the search
abbrev pub IsStored : TableView → Search → CaseEquality → Type 0
IsStored t s x = Contains (images t s.store.clauses)
    (literals_of (negated (term_at t x.disjunction) ∷ term_at t x.equality ∷ []))
