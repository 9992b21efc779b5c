-- What comes of adding to a log.
use Rattle.std.specs.Prelude.{◌≡◌, ◌<◌, List, [], ◌∷◌, ◌++◌, length, map, All, Vec, Result, Ok, Err}
use Rattle.std.specs.declared.alloc.Global.{Global}
use Rattle.no_memory.specs.declared.NoMemory.{NoMemory}
use Rattle.spec_rules.specs.Rules.{IsWide}
use Rattle.spec_derivations.specs.Derivations.{Derivation, Inference, «assumption», by_rule, conclusion_at, FollowsFrom}
use Rattle.term_core.specs.declared.ids.TermId.{TermId}
use Rattle.term_core.specs.Tables.{TableView}
use Rattle.proof_log.specs.declared.premises.StepId.{StepId}
use Rattle.proof_log.specs.declared.log_fault.LogFault.{LogFault}
use Rattle.proof_log.specs.declared.log_fault.LogFault.TheVariants.{RuleFails, Wide, Memory}
use Rattle.proof_log.specs.Logs.{Logged, assumed, AreStepsOf, clauses_in, inference_of, derivation_in, IsFormulaIn}
use Rattle.proof_log.specs.Logs.{IsLogOf}

-- A term is assumed last, under the next number.
pub record IsAssumedLast (old : List Logged) (t : TermId) (id : StepId) (new : List Logged) : Type 0 where
  -- the number is the next
  pub number : id.0 ≡ length old
  -- it is last
  pub last : new ≡ old ++ assumed t ∷ []
  -- over each table where the term is a formula, the log is right as before
  pub right : (u : TableView) → IsLogOf u old → IsFormulaIn u t → IsLogOf u new

-- a term is assumed, or nothing is changed
abbrev pub Assumes : List Logged → TermId → Result StepId NoMemory → List Logged → Type 0
Assumes old t (Ok id) new = IsAssumedLast old t id new
Assumes old t (Err _) new = new ≡ old

-- A clause that is right is last, under the next number.
pub record IsAdded (t : TableView) (old : List Logged) (l : Logged) (id : StepId) (new : List Logged) : Type 0 where
  -- the number is the next
  pub number : id.0 ≡ length old
  -- it is last
  pub last : new ≡ old ++ l ∷ []
  -- it follows from those before it
  pub follows : FollowsFrom (derivation_in t old) (inference_of t l)
  -- with it, the log is right over the table
  pub right : IsLogOf t new

-- whether the step follows from those before it cannot be told within the bound on numbers
abbrev pub IsWideFrom : Derivation → Inference → Type 0
IsWideFrom earlier («assumption» t) = ⊥
IsWideFrom earlier (by_rule r ps arguments c) = All (λ n. n < length earlier) ps
    × IsWide r (map (conclusion_at earlier) ps) arguments c

-- what a fault says of a clause: it neither follows nor is wide; it is wide; out of memory tells nothing
abbrev pub Faults : Derivation → Inference → LogFault → Type 0
Faults earlier x RuleFails = (FollowsFrom earlier x → ⊥) × (IsWideFrom earlier x → ⊥)
Faults earlier x Wide = IsWideFrom earlier x
Faults earlier x Memory = Unit {0}

-- what comes of adding a clause: it is right and is last, or there is a fault and nothing is changed
abbrev pub AddsClause : TableView → List Logged → Logged → Result StepId LogFault → List Logged → Type 0
AddsClause t old l (Ok id) new = IsAdded t old l id new
AddsClause t old l (Err f) new = Faults (derivation_in t old) (inference_of t l) f × (new ≡ old)

-- a clause follows from those before it, or there is a fault
abbrev pub JudgesClause : TableView → List Logged → Logged → Result (Unit {0}) LogFault → Type 0
JudgesClause t log l (Ok _) = FollowsFrom (derivation_in t log) (inference_of t l)
JudgesClause t log l (Err f) = Faults (derivation_in t log) (inference_of t l) f

-- the clauses of numbers, where these are of the log's; that they aren't; or out of memory, which tells nothing
abbrev pub Collects : List Logged → List StepId → Result (Vec (List TermId) Global) LogFault → Type 0
Collects log ss (Ok cs) = AreStepsOf log ss × (cs.items ≡ clauses_in log ss)
Collects log ss (Err RuleFails) = AreStepsOf log ss → ⊥
Collects log ss (Err Wide) = ⊥
Collects log ss (Err Memory) = Unit {0}
