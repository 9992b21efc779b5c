-- Logs of clauses, and what they say over a table of terms. Source: Alethe specification, proofs as lists of commands;
-- to number them is own.
use Rattle.std.specs.Prelude.{ℕ, ◌<◌, List, [], ◌∷◌, length, map, All, slice_index_or}
use Rattle.spec_numbers.specs.Fractions.{Fraction}
use Rattle.spec_sorts.specs.WellSorted.{IsFormulaOver}
use Rattle.spec_sorts.specs.Literals.{Clause}
use Rattle.spec_proofs.specs.declared.Rule.{Rule}
use Rattle.spec_derivations.specs.Derivations.{Inference, «assumption», by_rule, Derivation, IsDerivation}
use Rattle.spec_derivations.specs.Derivations.{conclusion_at}
use Rattle.term_core.specs.declared.ids.TermId.{TermId}
use Rattle.term_core.specs.Tables.{TableView, term_at, IsIn, clause_at}
use Rattle.rule_bool.specs.Arguments.{texts_of}
use Rattle.proof_log.specs.declared.premises.StepId.{StepId}

-- A clause of a log, and why it is there.
pub data Logged : Type 0 where
  -- an assumed term, which is the clause's one literal
  assumed : TermId → Logged
  -- a clause that follows by a rule from the clauses of these numbers, with the rule's arguments
  stepped : Rule → List StepId → List Fraction → List TermId → Logged

-- the literals of the clause
abbrev pub named : Logged → List TermId
named (assumed id) = id ∷ []
named (stepped r ps qs c) = c

-- the numbers of its premises
abbrev pub premises_in : Logged → List StepId
premises_in (assumed id) = []
premises_in (stepped r ps qs c) = ps

-- it is assumed
abbrev pub IsAssumed : Logged → Type 0
IsAssumed (assumed id) = Unit {0}
IsAssumed (stepped r ps qs c) = ⊥

-- what no number of a log means: that a term is assumed
abbrev pub no_logged : Logged
no_logged = assumed (record { 0 = 0 })

-- the clause of a number
abbrev pub logged_at : List Logged → StepId → Logged
logged_at log s = slice_index_or log s.0 no_logged

-- the numbers are of the log's
abbrev pub AreStepsOf : List Logged → List StepId → Type 0
AreStepsOf log ss = All (λ s. s.0 < length log) ss

-- the clauses of numbers
abbrev pub clauses_in : List Logged → List StepId → List (List TermId)
clauses_in log ss = map (λ s. named (logged_at log s)) ss

-- the premises of each are before it
abbrev pub AreEarlier : List Logged → Type 0
AreEarlier log = (k : ℕ) → k < length log → All (λ s. s.0 < k) (premises_in (slice_index_or log k no_logged))

-- numbers as plain ones
abbrev pub numbers_of : List StepId → List ℕ
numbers_of ss = map (λ s. s.0) ss

-- each literal has a number below n
abbrev pub AreBelow : ℕ → List Logged → Type 0
AreBelow n log = All (λ l. All (λ (id : TermId). id.0 < n) (named l)) log

-- what it says over a table
abbrev pub inference_of : TableView → Logged → Inference
inference_of t (assumed id) = «assumption» (term_at t id)
inference_of t (stepped r ps qs c) = by_rule r (numbers_of ps) (texts_of qs) (clause_at t c)

-- what the log says over a table
abbrev pub derivation_in : TableView → List Logged → Derivation
derivation_in t log = map (inference_of t) log

-- the clause of a number, as the log says it over the table
abbrev pub stated : TableView → List Logged → StepId → Clause
stated t log s = conclusion_at (derivation_in t log) s.0

-- the number is that of a formula over the table's symbols
abbrev pub IsFormulaIn : TableView → TermId → Type 0
IsFormulaIn t id = IsIn t id × IsFormulaOver t.symbols (term_at t id)

-- each number is that of a formula
abbrev pub AreFormulasIn : TableView → List TermId → Type 0
AreFormulasIn t ids = All (IsFormulaIn t) ids

-- The log is one over the table: its clauses are of the table's formulas, and each step is right.
pub record IsLogOf (t : TableView) (log : List Logged) : Type 0 where
  -- each literal is a formula of the table
  pub formulas : All (λ l. AreFormulasIn t (named l)) log
  -- each clause is assumed or follows from those before it
  pub right : IsDerivation (derivation_in t log)
