-- Two terms that each case of an asserted disjunction joins, and the equality of elements that follows.
use Rattle.std.specs.Prelude.{◌≡◌, ◌<◌, List, [], ◌∷◌, length, All, Contains}
use Rattle.spec_text.specs.Bytes.{Name}
use Rattle.spec_sorts.specs.Terms.{And, Or, Declared, Term, of, negated, sort_of}
use Rattle.spec_sorts.specs.Subterms.{subterms_of}
use Rattle.spec_interfaces.specs.Interfaces.{IsElementEquality}
use Rattle.term_core.specs.declared.ids.TermId.{TermId}
use Rattle.term_core.specs.Tables.{TableView, term_at, clause_at}
use Rattle.proof_log.specs.Logs.{Logged, named, logged_at, IsFormulaIn}
use Rattle.proof_log.specs.Theories.{IsTermIn}
use Rattle.case_equalities.specs.declared.equalities.CaseEquality.{CaseEquality}
use Rattle.case_equalities.specs.declared.lead.Chain.{Chain}
use Rattle.case_equalities.specs.declared.lead.Lead.{Lead}

-- the subterms of the asserted terms
abbrev pub asserted_below : TableView → List TermId → List Term
asserted_below t roots = subterms_of (clause_at t roots)

-- it is the number of one of these terms
abbrev pub IsOneOf : TableView → List Term → TermId → Type 0
IsOneOf t ts id = IsTermIn t id × Contains ts (term_at t id)

-- so is each formula of a chain
pub record IsChainOver (t : TableView) (ts : List Term) (c : Chain) : Type 0 where
  -- the case
  pub case : IsOneOf t ts c.case
  pub formula : IsFormulaIn t c.case
  -- the equalities
  pub equalities : All (IsOneOf t ts) c.equalities.items
  pub formulas : All (IsFormulaIn t) c.equalities.items

-- A term is asserted, by itself or as an argument of a conjunction that is.
pub data IsConjunctOf (ts : List Term) : Term → Type 0 where
  -- it is one of these
  itself : (t : Term) → Contains ts t → IsConjunctOf ts t
  -- or an argument of such a conjunction
  argument : (us : List Term) (t : Term) → IsConjunctOf ts (of And us) → Contains us t → IsConjunctOf ts t

-- It is a disjunction among the asserted terms or their conjuncts.
pub record IsAssertedDisjunction (ts : List Term) (t : Term) : Type 0 where
  -- it is asserted
  pub asserted : IsConjunctOf ts t
  -- and the disjunction of these
  pub cases : List Term
  pub is : t ≡ of Or cases

-- All that it speaks of is among the subterms of the asserted terms. That the cases join the two terms is judged where
-- it is stated.
pub record IsLeadOver (t : TableView) (roots : List TermId) (x : Lead) : Type 0 where
  -- the disjunction
  pub disjunction : IsOneOf t (asserted_below t roots) x.disjunction
  pub formula : IsFormulaIn t x.disjunction
  pub asserted : IsAssertedDisjunction (clause_at t roots) (term_at t x.disjunction)
  -- the two terms are elements of one declared sort
  pub left : IsOneOf t (asserted_below t roots) x.left
  pub right : IsOneOf t (asserted_below t roots) x.right
  pub sort : Name
  pub left_sort : sort_of (term_at t x.left) ≡ Declared sort
  pub right_sort : sort_of (term_at t x.right) ≡ Declared sort
  -- the chains speak of the terms
  pub chains : All (IsChainOver t (asserted_below t roots)) x.chains.items

-- An equality of elements follows from an asserted disjunction, by the last of some lemmas.
pub record IsCaseEquality (t : TableView) (log : List Logged) (roots : List TermId) (x : CaseEquality) : Type 0 where
  -- the disjunction
  pub asserted : IsAssertedDisjunction (clause_at t roots) (term_at t x.disjunction)
  -- the equality is a formula, of two elements below asserted terms
  pub formula : IsFormulaIn t x.equality
  pub elements : IsElementEquality (asserted_below t roots) (term_at t x.equality)
  -- the step is there
  pub there : x.step.0 < length log
  -- and says that the one is false or the other true
  pub says : clause_at t (named (logged_at log x.step)) ≡ negated (term_at t x.disjunction) ∷ term_at t x.equality ∷ []
