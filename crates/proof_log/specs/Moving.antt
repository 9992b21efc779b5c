-- How what stays of a log is marked, and moved up.
use Rattle.std.specs.Prelude.{◌≡◌, ◌⊎◌, ◌<◌, ◌≤◌, ℕ, suc, ltb, if◌then◌else◌, List, length, map, set, get_or, All}
use Rattle.std.specs.Prelude.{Contains}
use Rattle.proof_log.specs.declared.premises.StepId.{StepId}
use Rattle.proof_log.specs.Logs.{Logged, assumed, stepped, no_logged, premises_in, logged_at}
use Rattle.proof_log.specs.Reaches.{RestsOn}
use Rattle.proof_log.specs.Keeping.{step_of, was, back, AreAscending}

-- the number is marked
abbrev pub IsMarked : List ℕ → StepId → Type 0
IsMarked marks s = get_or marks s.0 0 ≡ 1

-- a number is marked, if it is not below one
abbrev pub Marks : List ℕ → (from : ℕ) → StepId → List ℕ → Type 0
Marks old from s new = ((s.0 < from) × (new ≡ old)) ⊎ ((from ≤ s.0) × (new ≡ set old s.0 1))

-- a marked one rests on it
abbrev pub Comes : List Logged → List ℕ → StepId → Type 0
Comes log marks s = (m : StepId) × IsMarked marks m × RestsOn log m s

-- with a marked clause from one on, its premises from a number on are marked
abbrev pub IsClosedFrom : List Logged → List ℕ → (from k : ℕ) → Type 0
IsClosedFrom log marks from k = (s p : StepId) → k ≤ s.0 → s.0 < length log → IsMarked marks s
    → Contains (premises_in (logged_at log s)) p → from ≤ p.0 → IsMarked marks p

-- the new number of a clause: those below a number stay
abbrev pub new_number : (from : ℕ) → List ℕ → StepId → StepId
new_number from marks s = step_of (if ltb s.0 from then s.0 else get_or marks s.0 0)

-- a clause with the new numbers of its premises
abbrev pub renumbered : (from : ℕ) → List ℕ → Logged → Logged
renumbered from marks (assumed id) = assumed id
renumbered from marks (stepped r ps qs c) = stepped r (map (new_number from marks) ps) qs c

-- A log with a number for each clause: a mark before the clause was looked at, and then its new number, where it stays.
pub record Marked : Type 0 where
  -- the clauses
  pub log : List Logged
  -- the numbers
  pub marks : List ℕ

-- a log with numbers
abbrev pub with_marks : List Logged → List ℕ → Marked
with_marks log marks = record { log = log; marks = marks }

-- the clause k goes to a place, where it is marked, and its new number is noted; else nothing is changed
abbrev pub IsMoved : (from k to : ℕ) → (old new : Marked) → (next : ℕ) → Type 0
IsMoved from k to old new next =
    ((IsMarked old.marks (step_of k) → ⊥) × (new.log ≡ old.log) × (new.marks ≡ old.marks) × (next ≡ to))
    ⊎ (IsMarked old.marks (step_of k)
    × (new.log ≡ set (set old.log k no_logged) to (renumbered from old.marks (logged_at old.log (step_of k))))
    × (new.marks ≡ set old.marks k to) × (next ≡ suc to))

-- In the midst of moving: the clauses before k were looked at, and those that stay are in the first places.
pub record IsMoving (from : ℕ) (old : Marked) (k to : ℕ) (now : Marked) : Type 0 where
  -- the numbers that those which stay had, in order
  pub kept : List StepId
  -- there are as many as places were taken
  pub size : length kept ≡ to
  -- no more than were looked at
  pub to_k : to ≤ k
  -- and the first clauses are among them
  pub from_to : from ≤ to
  -- there are as many clauses as there were
  pub size_now : length now.log ≡ length old.log
  -- and as many numbers
  pub size_noted : length now.marks ≡ length old.marks
  -- the numbers of those that stay ascend
  pub ascending : AreAscending kept
  -- they were looked at
  pub below : All (λ (s : StepId). s.0 < k) kept
  -- each is one of the first or marked
  pub only : (s : StepId) → Contains kept s → (s.0 < from) ⊎ IsMarked old.marks s
  -- the first have their own numbers
  pub low : (s : StepId) → s.0 < from → was kept s ≡ s
  -- each marked one has a new number
  pub found : (s : StepId) → from ≤ s.0 → s.0 < k → IsMarked old.marks s
      → (get_or now.marks s.0 0 < to) × (was kept (step_of (get_or now.marks s.0 0)) ≡ s)
  -- what stays is as it was, but for the numbers of premises
  pub same : (s : StepId) → s.0 < to → back kept (logged_at now.log s) ≡ logged_at old.log (was kept s)
  -- these are before each
  pub earlier : (s : StepId) → s.0 < to → All (λ (p : StepId). p.0 < s.0) (premises_in (logged_at now.log s))
  -- what is left to be looked at is as it was
  pub rest : (s : StepId) → k ≤ s.0 → logged_at now.log s ≡ logged_at old.log s
  -- and so is what is left of the marks
  pub left : (s : StepId) → k ≤ s.0 → get_or now.marks s.0 0 ≡ get_or old.marks s.0 0
