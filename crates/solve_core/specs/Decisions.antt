-- What a decision shows.
use Rattle.std.specs.Prelude.{◌≡◌, ◌⊎◌, ◌≤◌, List, [], length, All, Some, None}
use Rattle.spec_sorts.specs.Terms.{Term}
use Rattle.spec_derivations.specs.Problems.{Problem, subterms_in}
use Rattle.spec_derivations.specs.Examples.{asserting, speaking}
use Rattle.spec_interfaces.specs.Interfaces.{IsInterfaceEquality}
use Rattle.term_core.specs.Tables.{TableView}
use Rattle.proof_log.specs.Logs.{Logged, IsLogOf}
use Rattle.ratio128.specs.declared.wide.Wide.{Wide}
use Rattle.sat_budget.specs.declared.limits.Limits.{Limits}
use Rattle.sat_budget.specs.declared.limits.Strain.{Strain}
use Rattle.sat_budget.specs.declared.limits.Reason.TheVariants.{Overflow}
use Rattle.sat_budget.specs.Budgets.{BudgetView}
use Rattle.search_loop.specs.declared.cdcl.Answer.{Answer}
use Rattle.search_loop.specs.declared.cdcl.Answer.TheVariants.{Unknown}
use Rattle.search_loop.specs.Stops.{IsNoBasis}
use Rattle.search_loop.specs.Rounds.{HasLimit, HasEvidence, IsLearning, HasMade}
use Rattle.solve_core.specs.Forms.{FindsOverflow}
use Rattle.solve_core.specs.declared.outcome.Outcome.{Outcome}

-- An operation left the bound before a search began.
pub record IsOverflowedBy (limits : Limits) (w : Wide) (d : Outcome) : Type 0 where
  -- the answer tells the operation, without a basis
  pub strain : Strain
  pub answer : d.answer ≡ Unknown (Overflow strain)
  pub is : strain.wide ≡ w
  pub basis : IsNoBasis strain.basis
  -- nothing was logged
  pub log : d.log ≡ []
  -- and nothing spent
  pub budget : d.budget ≡ record { limit = limits.conflicts; learned = []; exchanges = [] }

-- The answer has its evidence, in a log that is right, and no more was learned than these limits allow.
pub record IsJustified (t : TableView) (p : Problem) (limits : Limits) (d : Outcome) : Type 0 where
  -- each step of the log is right
  pub log_right : IsLogOf t d.log
  -- the budget has the limit
  pub limit_is : HasLimit limits d.budget
  -- no more clauses were learned than it allows
  pub learned_within : length d.budget.learned ≤ d.budget.limit
  -- each atom has a form; or the answer is the overflow of the first that has none, and nothing else was done
  pub forms : FindsOverflow t p None ⊎ ((w : Wide) × FindsOverflow t p (Some w) × IsOverflowedBy limits w d)
  -- the answer shows what it should
  pub evidence : HasEvidence t p d.log [] d.budget d.answer
  -- and so do the log and what was learned
  pub learning : IsLearning t p d.log [] d.answer d.budget.learned
  -- the exchanges are those of the check
  pub exchanged : HasMade p d.budget d.answer

-- Terms that are asserted are decided: with interface equalities, the answer has its evidence.
pub record HasDecision (t : TableView) (ts : List Term) (limits : Limits) (d : Outcome) : Type 0 where
  -- those equalities
  pub interface : List Term
  pub equalities : All (IsInterfaceEquality (subterms_in (asserting ts))) interface
  -- the evidence
  pub justified : IsJustified t (speaking ts interface) limits d

-- What a solver keeps of its last decision.
pub record SolverView : Type 0 where
  -- the log of its steps
  pub log : List Logged
  -- its budget, with what was learned
  pub budget : BudgetView

-- the terms are decided, and the solver keeps the evidence
abbrev pub IsShownBy : TableView → List Term → Limits → SolverView → Answer → Type 0
IsShownBy t ts limits s a = HasDecision t ts limits (record { answer = a; log = s.log; budget = s.budget })
