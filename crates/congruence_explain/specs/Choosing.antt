-- Which literals a last clause keeps, and when all of a clause are needed.
use Rattle.std.specs.Prelude.{◌≡◌, ◌⊎◌, ℕ, ◌<◌, List, map, length, get_or, Contains}
use Rattle.spec_sorts.specs.Literals.{Literal, literals_of, complement}
use Rattle.spec_derivations.specs.ExactChains.{IsExactResolvent}
use Rattle.spec_proofs.specs.Resolution.{IsWithin}
use Rattle.term_core.specs.declared.ids.TermId.{TermId}
use Rattle.term_core.specs.declared.ids.Lit.{Lit}
use Rattle.term_core.specs.Tables.{TableView, clause_at}
use Rattle.proof_log.specs.declared.premises.StepId.{StepId}
use Rattle.proof_log.specs.Logs.{Logged, clauses_in}
use Rattle.proof_log.specs.Clashes.{literals_in}
use Rattle.proof_log.specs.Theories.{Derived}
use Rattle.congruence_explain.specs.declared.claims.SignedClaim.{SignedClaim}
use Rattle.congruence_explain.specs.Claims.{claim_as_literal}
use Rattle.congruence_explain.specs.Needing.{HasFalsePremise}
use Rattle.congruence_explain.specs.Steps.{Start, steps_since, AreNumbersFrom}

-- Of the claims of a clause those are kept whose literals are needed.
pub record AreKept (needed literals : List Lit) (clause kept : List SignedClaim) : Type 0 where
  -- each is one whose literal is needed
  pub only : (s : SignedClaim) (d : Lit) → Contains kept s → (k : ℕ) × (k < length clause) × (get_or clause k s ≡ s)
      × Contains needed (get_or literals k d)
  -- and they are all
  pub all : (k : ℕ) (s : SignedClaim) (d : Lit) → k < length clause → Contains needed (get_or literals k d)
      → Contains kept (get_or clause k s)

-- The steps since the start, and claims of a clause, whose literals are what a chain of resolutions over these steps
-- gives, and no more.
pub record IsChosen (start : Start) (now : Derived) (clause : List SignedClaim) (steps : List StepId)
    (kept : List SignedClaim) : Type 0 where
  -- the steps
  pub numbers : AreNumbersFrom now.log (length start.log) steps
  -- each claim is of the clause
  pub within : IsWithin kept clause
  -- a chain gives them
  pub comes : IsExactResolvent complement (Contains (steps_since start now)) (map (claim_as_literal start.table) kept)

-- A clause is logged that has claims of another one, and no others.
pub record HasPutSome (start : Start) (now : Derived) (clause : List SignedClaim) (id : StepId) : Type 0 where
  -- its claims
  pub kept : List SignedClaim
  -- they are of the other one
  pub within : IsWithin kept clause
  -- its number
  pub there : id.0 < length now.log
  -- is that of the clause
  pub literals : literals_in now.table now.log id ≡ map (claim_as_literal start.table) kept

-- the literals of the clauses of steps
abbrev pub premises_of : TableView → List Logged → List StepId → List (List Literal)
premises_of t log steps = map literals_of (map (clause_at t) (clauses_in log steps))

-- the clause is what a chain of resolutions over the clauses of steps gives, and no more
abbrev pub ComesFrom : TableView → List Logged → List StepId → List TermId → Type 0
ComesFrom t log steps clause =
    IsExactResolvent complement (Contains (premises_of t log steps)) (literals_of (clause_at t clause))

-- A chain of resolutions over premises gives fewer literals than a clause has.
pub record GivesFewer (premises : List (List Literal)) (clause : List Literal) : Type 0 where
  -- what it gives
  pub given : List Literal
  pub comes : IsExactResolvent complement (Contains premises) given
  -- are literals of the clause
  pub within : IsWithin given clause
  -- but for this one at least
  pub unneeded : Literal
  pub there : Contains clause unneeded
  pub missing : Contains given unneeded → ⊥

-- from the complements of the clause's literals, unit propagation makes no premise false; or fewer literals come
abbrev pub IsNotFound : TableView → List Logged → List StepId → List TermId → Type 0
IsNotFound t log steps clause =
    (HasFalsePremise (premises_of t log steps) (map complement (literals_of (clause_at t clause))) → ⊥)
    ⊎ GivesFewer (premises_of t log steps) (literals_of (clause_at t clause))
