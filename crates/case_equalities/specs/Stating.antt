-- The steps by which a disjunction leads to an equality: a batch of lemmas, over some terms.
use Rattle.std.specs.Prelude.{◌≡◌, ◌⊎◌, ◌<◌, ◌≤◌, List, [], ◌∷◌, ◌++◌, length, All}
use Rattle.spec_sorts.specs.Terms.{Term, negated}
use Rattle.spec_proofs.specs.declared.Rule.{Rule}
use Rattle.spec_derivations.specs.Derivations.{FollowsFrom}
use Rattle.spec_derivations.specs.Lemmas.{IsMadeOf}
use Rattle.term_core.specs.declared.ids.TermId.{TermId}
use Rattle.term_core.specs.Tables.{TableView, term_at}
use Rattle.proof_log.specs.declared.premises.StepId.{StepId}
use Rattle.proof_log.specs.Logs.{Logged, stepped, named, logged_at, inference_of, derivation_in, IsFormulaIn}
use Rattle.proof_log.specs.Adding.{IsWideFrom}
use Rattle.proof_log.specs.Theories.{Derived, DerivesLemmas}
use Rattle.term_clauses.specs.Stating.{Widens}
use Rattle.case_equalities.specs.declared.lead.Chain.{Chain}
use Rattle.case_equalities.specs.Leads.{asserted_below}

-- What a batch of lemmas begins with.
pub record Batch : Type 0 where
  -- the terms of which those of its clauses are made
  pub terms : List Term
  -- the table and the log as they were
  pub start : Derived

-- What equalities are sought of: a table with a log, and asserted terms.
pub record Origin : Type 0 where
  -- the table and the log
  pub start : Derived
  -- the terms
  pub roots : List TermId

-- the batch of what is stated of leads there
abbrev pub batch_of : Origin → Batch
batch_of o = record { terms = asserted_below o.start.table o.roots; start = o.start }

-- what came since the start are lemmas
abbrev pub Continues : Batch → Derived → Type 0
Continues b now = DerivesLemmas b.terms b.start now

-- Lemmas came, in the batch.
pub record GoesOn (b : Batch) (old new : Derived) : Type 0 where
  -- the batch goes on
  pub derives : Continues b new
  -- the table has more terms alone
  pub wider : Widens old.table new.table
  -- the steps that came
  pub more : List Logged
  -- they are last
  pub log : new.log ≡ old.log ++ more

-- the number is that of a formula that is made of the terms
abbrev pub IsMade : Batch → TableView → TermId → Type 0
IsMade b t id = IsFormulaIn t id × IsMadeOf b.terms (term_at t id)

-- each number is
abbrev pub AreMade : Batch → TableView → List TermId → Type 0
AreMade b t ids = All (IsMade b t) ids

-- the negation of a formula has that number
abbrev pub IsDenialOf : Batch → TableView → TermId → TermId → Type 0
IsDenialOf b t id denial = IsMade b t denial × (term_at t denial ≡ negated (term_at t id))

-- the number is that of a step of the batch
abbrev pub IsStepOf : Batch → List Logged → StepId → Type 0
IsStepOf b log id = (length b.start.log ≤ id.0) × (id.0 < length log)

-- so is each number
abbrev pub AreStepsIn : Batch → List Logged → List StepId → Type 0
AreStepsIn b log ids = All (IsStepOf b log) ids

-- the step of a rule without premises
abbrev pub without_premises : Rule → List TermId → Logged
without_premises rule clause = stepped rule [] [] clause

-- it does not follow, or whether it does cannot be told within the bound on numbers
abbrev pub IsNotTaken : TableView → List Logged → Rule → List TermId → Type 0
IsNotTaken t log rule clause = (FollowsFrom (derivation_in t log) (inference_of t (without_premises rule clause)) → ⊥)
    ⊎ IsWideFrom (derivation_in t log) (inference_of t (without_premises rule clause))

-- it is one of this clause
abbrev pub StatesBoth : Batch → List Logged → TermId → TermId → StepId → Type 0
StatesBoth b log one other id = IsStepOf b log id × (named (logged_at log id) ≡ one ∷ other ∷ [])

-- A case and the equalities of its chain are made of the terms.
pub record IsChainOf (b : Batch) (c : Chain) : Type 0 where
  -- the case
  pub case : IsMade b b.start.table c.case
  -- the equalities
  pub equalities : AreMade b b.start.table c.equalities.items
