-- What is looked for among asserted terms: the disjunctions, and what each lead has to name.
use Rattle.std.specs.Prelude.{◌≡◌, Bool, List, ◌++◌, All, ◌⊎◌, Contains}
use Rattle.spec_text.specs.Bytes.{Name}
use Rattle.spec_sorts.specs.Terms.{Truth, Declared, Term, sort_of}
use Rattle.term_core.specs.declared.ids.TermId.{TermId}
use Rattle.term_core.specs.Tables.{TableView, IsIn, term_at}
use Rattle.term_clauses.specs.Marks.{IsMarked}
use Rattle.case_equalities.specs.declared.lead.Chain.{Chain}
use Rattle.case_equalities.specs.declared.lead.Lead.{Lead}
use Rattle.case_equalities.specs.Leads.{IsConjunctOf, IsAssertedDisjunction}

-- it is the number of one of these terms, or of a conjunct of one
abbrev pub IsConjunctIn : TableView → List Term → TermId → Type 0
IsConjunctIn t ts id = IsIn t id × IsConjunctOf ts (term_at t id)

-- each marked number is of such a term
abbrev pub AreConjuncts : TableView → List Term → List Bool → Type 0
AreConjuncts t ts marks = (id : TermId) → IsMarked marks id.0 → IsConjunctIn t ts id

-- it is the number of a disjunction among these terms and their conjuncts
abbrev pub IsDisjunctionIn : TableView → List Term → TermId → Type 0
IsDisjunctionIn t ts id = IsIn t id × IsAssertedDisjunction ts (term_at t id)

-- what is marked was so before, or is one of these numbers
abbrev pub MarksOnly : List Bool → List TermId → List Bool → Type 0
MarksOnly old ids new = (id : TermId) → IsMarked new id.0 → IsMarked old id.0 ⊎ Contains ids id

-- it is a term's number, and marked
abbrev pub IsMarkedIn : TableView → List Bool → TermId → Type 0
IsMarkedIn t marks id = IsIn t id × IsMarked marks id.0

-- and the term's sort is Bool
abbrev pub IsMarkedFormula : TableView → List Bool → TermId → Type 0
IsMarkedFormula t marks id = IsMarkedIn t marks id × (sort_of (term_at t id) ≡ Truth)

-- so is each formula of a chain
pub record IsMarkedChain (t : TableView) (marks : List Bool) (c : Chain) : Type 0 where
  -- the case
  pub case : IsMarkedFormula t marks c.case
  -- the equalities
  pub equalities : All (IsMarkedFormula t marks) c.equalities.items

-- Two marked numbers are of elements of one declared sort.
pub record AreMarkedElements (t : TableView) (marks : List Bool) (left right : TermId) : Type 0 where
  -- the one
  pub one : IsMarkedIn t marks left
  -- the other
  pub other : IsMarkedIn t marks right
  -- their sort
  pub sort : Name
  pub left_sort : sort_of (term_at t left) ≡ Declared sort
  pub right_sort : sort_of (term_at t right) ≡ Declared sort

-- All that a lead names is marked, and of its sort.
pub record IsMarkedLead (t : TableView) (marks : List Bool) (x : Lead) : Type 0 where
  -- the disjunction
  pub disjunction : IsMarkedFormula t marks x.disjunction
  -- the two terms
  pub elements : AreMarkedElements t marks x.left x.right
  -- the chains
  pub chains : All (IsMarkedChain t marks) x.chains.items

-- Leads of one disjunction came, of marked terms.
pub record AddsLeads (t : TableView) (marks : List Bool) (disjunction : TermId) (old new : List Lead) : Type 0 where
  -- those that came
  pub more : List Lead
  -- they are last
  pub is : new ≡ old ++ more
  -- they are right
  pub marked : All (IsMarkedLead t marks) more
  pub of_it : All (λ (x : Lead). x.disjunction ≡ disjunction) more
