-- What a check finds, and what shows it. Source: SMT-LIB 2.6, section 4.2.5; what counts as shown is own.
use Rattle.std.specs.Prelude.{◌≡◌, ℕ, List, map, All, Result, Ok, Err}
use Rattle.no_memory.specs.declared.NoMemory.{NoMemory}
use Rattle.spec_sorts.specs.Values.{Interpretation, Interprets}
use Rattle.spec_commands.specs.Stack.{Stack, terms_asserted, signature_of}
use Rattle.spec_commands.specs.Checks.{Check, asked}
use Rattle.spec_commands.specs.Kept.{IsAsserted, IsSoundStack}
use Rattle.spec_checking.specs.Commands.{known_at}
use Rattle.spec_checking.specs.Assumes.{assumed_in}
use Rattle.spec_proof_texts.specs.ReadBack.{HaveScriptNames}
use Rattle.spec_proof_texts.specs.Readable.{HaveReadableDefinitions}
use Rattle.spec_derivations.specs.Derivations.{Derivation}
use Rattle.spec_proof_texts.specs.Lines.{proof_text}
use Rattle.spec_proof_texts.specs.Plans.{Plan, terms_planned, IsPlan, lines_of}
use Rattle.spec_sessions.specs.Evidence.{Limits, Kept, Found, model, proof, spent, overflowed}
use Rattle.spec_sessions.specs.Evidence.{Justifies}
use Rattle.term_core.specs.declared.ids.TermId.{TermId}
use Rattle.term_core.specs.Tables.{TableView, literal_at}
use Rattle.term_walks.specs.declared.values.Interp.{Interp}
use Rattle.term_walks.specs.Valuations.{HasSymbolTables, HasTables}
use Rattle.proof_log.specs.declared.premises.StepId.{StepId}
use Rattle.proof_log.specs.Logs.{derivation_in, IsLogOf}
use Rattle.alethe_writer.specs.Printing.{PlanFits}
use Rattle.ratio128.specs.Meant.{overflow}
use Rattle.sat_budget.specs.Budgets.{BudgetView}
use Rattle.sat_budget.specs.declared.limits.Strain.{Strain}
use Rattle.sat_budget.specs.declared.limits.Limits.{Limits as CodeLimits}
use Rattle.sat_budget.specs.declared.limits.Reason.TheVariants as reasons
use Rattle.assertion_stack.specs.Stacks.{OverTable, IsStack, AreAssumed}
use Rattle.search_loop.specs.declared.cdcl.Answer.TheVariants.{Sat, Unsat, Unknown}
use Rattle.solve_core.specs.declared.outcome.Outcome.{Outcome}
use Rattle.solve_core.specs.Decisions.{HasDecision}
use Rattle.check_evidence.specs.declared.evidence.Evidence.{Evidence}
use Rattle.check_evidence.specs.declared.evidence.Evidence.TheVariants as found

-- limits in the words of the definitions
abbrev pub limits_meant : CodeLimits → Limits
limits_meant l = record { conflicts = l.conflicts; terms = l.terms }

-- and in those of the code
abbrev pub limits_of : Limits → CodeLimits
limits_of l = record { conflicts = l.conflicts; terms = l.terms }

-- A stack of the code represents a stack, which commands left under a limit on terms and names.
pub record IsHeld (terms : ℕ) (x : OverTable) (s : Stack) : Type 0 where
  -- it is the stack
  pub stack : IsStack terms x s
  -- commands left it
  pub sound : IsSoundStack terms s
  -- its names can be printed, up to each level
  pub names : HaveScriptNames s
  -- its definitions stand for terms that can be read back, up to each level
  pub readable : HaveReadableDefinitions s

-- A stack of the code, and the numbers of terms that are assumed, represent a check.
pub record IsHeldCheck (terms : ℕ) (x : OverTable) (assumed : List TermId) (c : Check) : Type 0 where
  -- the stack is that of the check
  pub held : IsHeld terms x c.stack
  -- the terms are those of its assumptions
  pub assumed_are : AreAssumed x.table assumed c.assumptions
  -- which were read, too
  pub read : All (IsAsserted terms (signature_of c.stack)) c.assumptions

-- they represent some check
abbrev pub HoldsCheck : ℕ → OverTable → List TermId → Type 0
HoldsCheck terms x assumed = (c : Check) × IsHeldCheck terms x assumed c

-- it represents some stack
abbrev pub HoldsSome : ℕ → OverTable → Type 0
HoldsSome terms x = (s : Stack) × IsHeld terms x s

-- what a search keeps, as a table means it, with a derivation of its clauses
abbrev pub kept_of : TableView → Derivation → BudgetView → Kept
kept_of t d budget = record {
  exchanges = budget.exchanges;
  derivation = d;
  learned = map (map (literal_at t)) budget.learned;
}

-- what was found is this, in the words of the definitions
abbrev pub IsEvidence : TableView → BudgetView → Evidence → Found → Type 0
IsEvidence t budget (found.Model interp) f =
    (i : Interpretation) × HasTables t interp × HasSymbolTables t interp i × Interprets i t.symbols × (f ≡ model i)
IsEvidence t budget (found.Proof log plan) f =
    IsLogOf t log × PlanFits t log plan × (f ≡ proof (proof_text (lines_of t.terms (derivation_in t log) plan)))
IsEvidence t budget (found.Reason (reasons.Conflicts n)) f =
    (d : Derivation) × (f ≡ spent n d (map (map (literal_at t)) budget.learned))
IsEvidence t budget (found.Reason (reasons.Overflow s)) f =
    (d : Derivation) × (f ≡ overflowed (overflow s.wide) (kept_of t d budget))

-- it is evidence of something
abbrev pub IsSomeEvidence : TableView → Evidence → Type 0
IsSomeEvidence t e = (budget : BudgetView) × (f : Found) × IsEvidence t budget e f

-- what was found is that of an outcome: its model, the proof that is printed of its log, the clauses that it learned,
-- or the operation that leaves the bound
abbrev pub IsFoundBy : TableView → Outcome → Found → Type 0
IsFoundBy t o (model i) = (interp : Interp) × (o.answer ≡ Sat interp) × HasSymbolTables t interp i
IsFoundBy t o (proof text) =
    (step : StepId) × (plan : Plan) × (o.answer ≡ Unsat step) × IsPlan t.terms (derivation_in t o.log) step.0 plan
    × (text ≡ proof_text (lines_of t.terms (derivation_in t o.log) plan))
IsFoundBy t o (spent n d learned) =
    (o.answer ≡ Unknown (reasons.Conflicts n)) × (d ≡ derivation_in t o.log)
    × (learned ≡ map (map (literal_at t)) o.budget.learned)
IsFoundBy t o (overflowed x k) =
    (s : Strain) × (o.answer ≡ Unknown (reasons.Overflow s)) × (x ≡ overflow s.wide)
    × (k ≡ kept_of t (derivation_in t o.log) o.budget)

-- the text of a proof assumes the assumptions of its log that are planned
abbrev pub AssumesPlanned : TableView → Check → Evidence → Found → Type 0
AssumesPlanned t c (found.Proof log plan) (proof text) =
    assumed_in (known_at c) text ≡ terms_planned (derivation_in t log) plan.inferences
AssumesPlanned t c e f = Unit {0}

-- it shows what it should of a check, within limits, and is that of an outcome
abbrev pub IsShown : Limits → TableView → Check → Evidence → Outcome → Type 0
IsShown limits t c e o =
    (f : Found) × Justifies limits c f × IsEvidence t o.budget e f × IsFoundBy t o f × AssumesPlanned t c e f

-- the outcome is that of a decision on all that a check asks about
abbrev pub Decides : Limits → TableView → Check → Outcome → Type 0
Decides limits t c o = HasDecision t (terms_asserted (asked c)) (limits_of limits) o

-- the budget is that of a decision on what a check asks about, which found this: it has the limit on conflicts, and
-- its clauses are those that the decision learned and has in its log
abbrev pub HasLearned : Limits → TableView → Check → Found → BudgetView → Type 0
HasLearned limits t c f budget =
    (o : Outcome) × Decides limits t c o × IsFoundBy t o f × (budget ≡ o.budget)

-- What a check found, and the stack of the code represents the same stack.
pub record HasChecked (limits : Limits) (c : Check) (e : Evidence) (x : OverTable) (budget : BudgetView) : Type 0 where
  -- the outcome of the decision
  pub outcome : Outcome
  -- it is right
  pub decided : Decides limits x.table c outcome
  -- its budget is kept
  pub budget_is : budget ≡ outcome.budget
  -- what was found shows what it should
  pub shown : IsShown limits x.table c e outcome
  -- the stack represents the same stack
  pub held : IsHeld limits.terms x c.stack

-- a check found something; or memory ran out
abbrev pub Checks : Limits → Check → Result Evidence NoMemory → OverTable → BudgetView → Type 0
Checks limits c (Ok e) x budget = HasChecked limits c e x budget
Checks limits c (Err _) x budget = IsHeld limits.terms x c.stack
