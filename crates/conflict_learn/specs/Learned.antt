-- What is learned from a conflict.
use Rattle.std.specs.Prelude.{◌≡◌, ◌≢◌, ◌⊎◌, ◌<◌, ◌≤◌, ℕ, List, ◌∷◌, [], ◌++◌, length, Contains, Result, Ok, Err}
use Rattle.spec_proofs.specs.declared.Rule.TheVariants.{Resolution}
use Rattle.spec_derivations.specs.ExactChains.{IsExactFrom}
use Rattle.no_memory.specs.declared.NoMemory.{NoMemory}
use Rattle.term_core.specs.declared.ids.TermId.{TermId}
use Rattle.term_core.specs.declared.ids.Lit.{Lit}
use Rattle.term_core.specs.Tables.{TableView, clause_at}
use Rattle.clause_literals.specs.Literals.{LiteralsMean}
use Rattle.proof_log.specs.declared.premises.StepId.{StepId}
use Rattle.proof_log.specs.Logs.{Logged, stepped, inference_of, derivation_in, IsLogOf}
use Rattle.sat_trail.specs.Trails.{TrailView}
use Rattle.conflict_learn.specs.Conflicts.{Conflict, IsFalseAt, IsConflictLevel, IsPremise}
use Rattle.conflict_learn.specs.Points.{IsUip}
use Rattle.conflict_learn.specs.declared.learned.Learned.{Learned}

-- A step by resolution that states a clause is the log's last; its premises are the conflict and reasons of literals on
-- which that depends.
pub record IsLogged (c : Conflict) (t : TableView) (new : List Logged) (clause : List Lit) (id : StepId) : Type 0 where
  -- its number is the next
  pub number : id.0 ≡ length c.log
  -- its premises
  pub premises : List StepId
  -- and the terms that state the clause
  pub terms : List TermId
  -- it is last
  pub last : new ≡ c.log ++ stepped Resolution premises [] terms ∷ []
  -- with it, the log is right
  pub right : IsLogOf t new
  -- the terms state the clause
  pub means : LiteralsMean t clause (clause_at t terms)
  -- it has no other premises
  pub no_others : (s : StepId) → Contains premises s → IsPremise c s

-- A clause has a literal of a level, and all others are of levels from 1 on below it, of which the second number is the
-- greatest, or 0.
pub record HasOneAt (v : TrailView) (clause : List Lit) (n level : ℕ) : Type 0 where
  -- the literal
  pub one : Lit
  -- the clause has it
  pub there : Contains clause one
  -- it is of the level
  pub of_level : IsFalseAt v one n
  -- each other one is of a lower level
  pub below : (m : Lit) → Contains clause m → m ≢ one → (k : ℕ) × IsFalseAt v m k × (0 < k) × (k < n) × (k ≤ level)
  -- and one of them has the greatest, where there are any
  pub reached : (level ≡ 0) ⊎ ((m : Lit) × Contains clause m × (m ≢ one) × IsFalseAt v m level)

-- A clause is learned from a conflict.
pub record IsLearned (c : Conflict) (t : TableView) (new : List Logged) (d : Learned) : Type 0 where
  -- the conflict's level
  pub level : ℕ
  pub level_is : IsConflictLevel c level
  -- it is above 0
  pub above : 0 < level
  -- one literal of the clause is of it
  pub one : HasOneAt c.trail d.clause level d.level
  -- its step is logged
  pub logged : IsLogged c t new d.clause d.step
  -- it is that of the first unique implication point, and the step's premises are those used on the way there
  pub uip : IsUip c level d.clause logged.premises
  -- its clause is what a chain of resolutions over its premises gives, and no more
  pub exact : IsExactFrom (derivation_in t c.log) (inference_of t (stepped Resolution logged.premises [] logged.terms))

-- the clause without literals is derived, or nothing is changed
abbrev pub Refutes : Conflict → Result StepId NoMemory → List Logged → Type 0
Refutes c (Ok id) new = IsLogged c c.table new [] id
Refutes c (Err _) new = new ≡ c.log
