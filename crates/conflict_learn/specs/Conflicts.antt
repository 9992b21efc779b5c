-- Clashes and reasons: steps of a log whose clauses are false under a trail, or were unit.
use Rattle.std.specs.Prelude.{◌≡◌, ◌≢◌, ◌⊎◌, ◌<◌, ◌≤◌, ℕ, List, length, take, get_or, Contains, Some, None}
use Rattle.term_core.specs.declared.ids.Lit.{Lit}
use Rattle.term_core.specs.Tables.{TableView}
use Rattle.clause_literals.specs.Literals.{lit_complement}
use Rattle.proof_log.specs.declared.premises.StepId.{StepId}
use Rattle.proof_log.specs.Logs.{Logged}
use Rattle.proof_log.specs.Clashes.{HasLit}
use Rattle.sat_trail.specs.Trails.{TrailView, no_lit}

-- A clause that is false under a trail, by its step, with the table and the log in which the trail's reasons are.
pub record Conflict : Type 0 where
  -- the terms
  pub table : TableView
  -- the steps
  pub log : List Logged
  -- the literals that hold
  pub trail : TrailView
  -- the step of the clause that is false
  pub clash : StepId

-- the step of a reason
abbrev pub step_of : ℕ → StepId
step_of r = record { 0 = r }

-- A step's clause has a literal, and its others are false.
pub record IsTrailReason (t : TableView) (log : List Logged) (held : List Lit) (l : Lit) (s : StepId) : Type 0 where
  -- the step is one of the log's
  pub in_log : s.0 < length log
  -- it has the literal
  pub has_it : HasLit t log s l
  -- and its others are false
  pub others_false : (m : Lit) → HasLit t log s m → m ≢ l → Contains held (lit_complement m)

-- each reason along a trail is a step that has the literal and whose others are false by earlier ones
abbrev pub AreTrailReasons : TableView → List Logged → TrailView → Type 0
AreTrailReasons t log v = (k r : ℕ) → k < length v.literals → get_or v.reasons k None ≡ Some r
    → IsTrailReason t log (take k v.literals) (get_or v.literals k no_lit) (step_of r)

-- A literal is false since a level: its complement came to hold there.
pub record IsFalseAt (v : TrailView) (m : Lit) (n : ℕ) : Type 0 where
  -- the place of its complement
  pub place : ℕ
  -- it is one of the trail's
  pub within : place < length v.literals
  -- the complement is there
  pub there : get_or v.literals place no_lit ≡ lit_complement m
  -- it is of the level
  pub level : get_or v.levels place 0 ≡ n

-- The greatest level of a conflict's literals, or 0 where it has none.
pub record IsConflictLevel (c : Conflict) (n : ℕ) : Type 0 where
  -- no literal is false only since a greater one
  pub greatest : (m : Lit) (k : ℕ) → HasLit c.table c.log c.clash m → IsFalseAt c.trail m k → k ≤ n
  -- and one is false since this one
  pub reached : (n ≡ 0) ⊎ ((m : Lit) × HasLit c.table c.log c.clash m × IsFalseAt c.trail m n)

-- a conflict has a literal that is false only since a level above 0
abbrev pub IsAboveZero : Conflict → Type 0
IsAboveZero c = (m : Lit) × (n : ℕ) × HasLit c.table c.log c.clash m × IsFalseAt c.trail m n × (0 < n)

-- each literal of a conflict is false since level 0
abbrev pub IsOfZero : Conflict → Type 0
IsOfZero c = (m : Lit) (n : ℕ) → HasLit c.table c.log c.clash m → IsFalseAt c.trail m n → n ≡ 0

-- A conflict depends on a literal: its complement is one of the conflict's, or one of the others in the reason of a
-- literal that it depends on.
pub data IsNeeded (c : Conflict) : Lit → Type 0 where
  by_clash : (m : Lit) → HasLit c.table c.log c.clash m → IsNeeded c (lit_complement m)
  by_reason : (p r : ℕ) (m : Lit) → p < length c.trail.literals → get_or c.trail.reasons p None ≡ Some r
      → IsNeeded c (get_or c.trail.literals p no_lit)
      → HasLit c.table c.log (step_of r) m → m ≢ get_or c.trail.literals p no_lit → IsNeeded c (lit_complement m)

-- The step of a number is the reason of a literal on which the conflict depends.
pub record IsReasonNeeded (c : Conflict) (s : StepId) : Type 0 where
  -- the place of the literal
  pub place : ℕ
  -- it is one of the trail's
  pub within : place < length c.trail.literals
  -- the step is its reason
  pub reason : get_or c.trail.reasons place None ≡ Some s.0
  -- the conflict depends on it
  pub needed : IsNeeded c (get_or c.trail.literals place no_lit)

-- the step is the conflict, or the reason of a literal on which it depends
abbrev pub IsPremise : Conflict → StepId → Type 0
IsPremise c s = (s ≡ c.clash) ⊎ IsReasonNeeded c s
