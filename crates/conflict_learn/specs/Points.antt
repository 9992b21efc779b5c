-- The first unique implication point of a conflict, and the clause that is learned there. Source: Zhang, Madigan,
-- Moskewicz and Malik, ICCAD 2001.
use Rattle.std.specs.Prelude.{◌≡◌, ◌⊎◌, ◌↔◌, ◌<◌, ◌≤◌, ℕ, List, length, get_or, Contains, Some, None}
use Rattle.term_core.specs.declared.ids.Lit.{Lit}
use Rattle.clause_literals.specs.Literals.{lit_complement}
use Rattle.proof_log.specs.declared.premises.StepId.{StepId}
use Rattle.sat_trail.specs.Trails.{no_lit, VariablesAreApart}
use Rattle.proof_log.specs.Clashes.{HasLit}
use Rattle.conflict_learn.specs.Conflicts.{Conflict, step_of}

-- the literal that holds at a place of the trail
abbrev pub held_at : Conflict → ℕ → Lit
held_at c p = get_or c.trail.literals p no_lit

-- its level
abbrev pub level_at : Conflict → ℕ → ℕ
level_at c p = get_or c.trail.levels p 0

-- a place is of the trail, and its literal makes one of the clause of a step false
abbrev pub Falsifies : Conflict → ℕ → StepId → Type 0
Falsifies c p s = (p < length c.trail.literals) × HasLit c.table c.log s (lit_complement (held_at c p))

-- A literal of the trail, by its place, makes one false of those that come up where one begins with the conflict's, and
-- replaces each that is false by a place from one on by the others of the reason there. Of a reason these are the false
-- ones.
pub data IsMet (c : Conflict) (from : ℕ) : ℕ → Type 0 where
  of_clash : (p : ℕ) → Falsifies c p c.clash → IsMet c from p
  of_reason : (q r p : ℕ) → from ≤ q → IsMet c from q → get_or c.trail.reasons q None ≡ Some r
      → Falsifies c p (step_of r) → IsMet c from p

-- Of the literals that are left where all false from a place on were replaced, two or more are of a level.
pub record HasTwo (c : Conflict) (n from : ℕ) : Type 0 where
  -- the places that make them false
  pub one : ℕ
  pub other : ℕ
  pub apart : one < other
  -- they are left
  pub before : other < from
  pub one_met : IsMet c from one
  pub other_met : IsMet c from other
  -- they are of the level
  pub one_level : level_at c one ≡ n
  pub other_level : level_at c other ≡ n

-- While two or more are of the level, the one that was assigned last is replaced: so it goes down to this place, and no
-- further.
pub record IsPoint (c : Conflict) (n from : ℕ) : Type 0 where
  -- it is one of the trail's, or the end
  pub within : from ≤ length c.trail.literals
  -- above it there are two
  pub above : (k : ℕ) → from < k → k ≤ length c.trail.literals → HasTwo c n k
  -- and here there are no more
  pub here : HasTwo c n from → ⊥

-- A clause has exactly the literals that are left at a place and are not of level 0, each once.
pub record IsLeft (c : Conflict) (from : ℕ) (clause : List Lit) : Type 0 where
  -- no variable occurs twice
  pub once : VariablesAreApart clause
  -- each that is left is there
  pub all : (p : ℕ) → p < from → IsMet c from p → 0 < level_at c p → Contains clause (lit_complement (held_at c p))
  -- and no other
  pub only : (m : Lit) → Contains clause m → (p : ℕ) × (p < from) × IsMet c from p × (0 < level_at c p)
      × (held_at c p ≡ lit_complement m)

-- A literal of level 0 is dropped: it makes one that is left false, or one of the reason of a dropped literal.
pub data IsDropped (c : Conflict) (from : ℕ) : ℕ → Type 0 where
  of_point : (p : ℕ) → p < from → IsMet c from p → level_at c p ≡ 0 → IsDropped c from p
  of_dropped : (q r p : ℕ) → IsDropped c from q → get_or c.trail.reasons q None ≡ Some r → Falsifies c p (step_of r)
      → IsDropped c from p

-- The step is the reason of a literal on the way to the point.
pub record IsResolved (c : Conflict) (from : ℕ) (s : StepId) : Type 0 where
  pub place : ℕ
  -- it was replaced
  pub replaced : from ≤ place
  pub met : IsMet c from place
  -- by the step
  pub reason : get_or c.trail.reasons place None ≡ Some s.0

-- The step is the reason of a literal that was dropped.
pub record IsOfDropped (c : Conflict) (from : ℕ) (s : StepId) : Type 0 where
  pub place : ℕ
  -- it was dropped
  pub dropped : IsDropped c from place
  -- the step is its reason
  pub reason : get_or c.trail.reasons place None ≡ Some s.0

-- a step is used: it is the conflict, or the reason of a literal that was replaced or dropped
abbrev pub IsUsed : Conflict → ℕ → StepId → Type 0
IsUsed c from s = (s ≡ c.clash) ⊎ (IsResolved c from s ⊎ IsOfDropped c from s)

-- A clause is the one of the first unique implication point of a conflict of a level, and follows from exactly these
-- steps.
pub record IsUip (c : Conflict) (n : ℕ) (clause : List Lit) (premises : List StepId) : Type 0 where
  -- from which place on literals were replaced
  pub from : ℕ
  -- it is the first at which one of the level is left
  pub point : IsPoint c n from
  -- the clause has what is left there
  pub left : IsLeft c from clause
  -- and depends on what was used
  pub used : (s : StepId) → Contains premises s ↔ IsUsed c from s
