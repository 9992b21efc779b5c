-- What stays of a log that is cut, and under which numbers.
use Rattle.std.specs.Prelude.{◌≡◌, ◌⊎◌, ◌<◌, ℕ, List, length, map, get_or}
use Rattle.std.specs.Prelude.{Contains}
use Rattle.proof_log.specs.declared.premises.StepId.{StepId}
use Rattle.proof_log.specs.Logs.{Logged, assumed, stepped, logged_at, AreStepsOf, AreEarlier}
use Rattle.proof_log.specs.Reaches.{RestsOn}

-- the step of a number
abbrev pub step_of : ℕ → StepId
step_of n = record { 0 = n }

-- the number that a clause had, where these stay, in order
abbrev pub was : List StepId → StepId → StepId
was kept s = get_or kept s.0 (step_of 0)

-- a clause with the numbers that its premises had
abbrev pub back : List StepId → Logged → Logged
back kept (assumed id) = assumed id
back kept (stepped r ps qs c) = stepped r (map (was kept) ps) qs c

-- it is one of the first, or a named one rests on it
abbrev pub Stays : List Logged → (len : ℕ) → (names : List StepId) → StepId → Type 0
Stays log len names s = (s.0 < len) ⊎ ((n : StepId) × Contains names n × RestsOn log n s)

-- later numbers are greater
abbrev pub AreAscending : List StepId → Type 0
AreAscending ss = (i j : ℕ) → i < j → j < length ss → (was ss (step_of i)).0 < (was ss (step_of j)).0

-- The first clauses of a log stay, with the derivations of the named ones, in order, and the names became their
-- clauses' new numbers.
pub record IsKeeping (old : List Logged) (len : ℕ) (names : List StepId) (new : List Logged) (renamed : List StepId)
    : Type 0 where
  -- the numbers that those which stay had, in order
  pub kept : List StepId
  -- they ascend
  pub ascending : AreAscending kept
  -- the first have their own
  pub first : (s : StepId) → s.0 < len → s.0 < length old → was kept s ≡ s
  -- they are of the log
  pub there : AreStepsOf old kept
  -- each of them should stay
  pub only : (s : StepId) → Contains kept s → Stays old len names s
  -- and each that should is one of them
  pub each : (s : StepId) → s.0 < length old → Stays old len names s → Contains kept s
  -- the clauses are as they were, but for the numbers of their premises
  pub same : map (back kept) new ≡ map (logged_at old) kept
  -- these are before each
  pub earlier : AreEarlier new
  -- the new names are of the log
  pub names_there : AreStepsOf new renamed
  -- they are those of the same clauses
  pub names_same : map (was kept) renamed ≡ names
