-- Levels, and the scope of a clause: the greatest level among the terms of its derivation and the assumed clauses on
-- which it rests.
use Rattle.std.specs.Prelude.{◌≡◌, ◌⊎◌, ◌≤◌, ◌<◌, ℕ, zero, suc, max, ltb, List, [], ◌∷◌, length, map, get_or, Contains}
use Rattle.std.specs.Prelude.{if◌then◌else◌}
use Rattle.term_core.specs.declared.ids.TermId.{TermId}
use Rattle.proof_log.specs.declared.premises.StepId.{StepId}
use Rattle.proof_log.specs.Logs.{Logged, assumed, named, logged_at}
use Rattle.proof_log.specs.Reaches.{RestsOn, ReachView}

-- A level: how many terms and clauses there were when it was opened.
pub record LevelMark : Type 0 where
  -- the terms of the table
  pub terms : ℕ
  -- the clauses of the log
  pub steps : ℕ

-- what no level has
abbrev pub no_level : LevelMark
no_level = record { terms = 0; steps = 0 }

-- the reach is within what there was when a level was opened
abbrev pub IsReachWithin : LevelMark → ReachView → Type 0
IsReachWithin m r = (r.terms ≤ m.terms) × (r.assumes ≤ m.steps)

-- the level of a number, where these were the lengths when levels were opened: how many of them are not above it
abbrev pub level_at : List ℕ → ℕ → ℕ
level_at [] n = 0
level_at (m ∷ ms) n = if ltb n m then 0 else suc (level_at ms n)

-- no length is above a later one
abbrev pub AreRising : List ℕ → Type 0
AreRising ms = (i j : ℕ) → i < j → j < length ms → get_or ms i 0 ≤ get_or ms j 0

-- how many terms there were when levels were opened
abbrev pub terms_of : List LevelMark → List ℕ
terms_of ls = map (λ (l : LevelMark). l.terms) ls

-- how many clauses there were
abbrev pub steps_of : List LevelMark → List ℕ
steps_of ls = map (λ (l : LevelMark). l.steps) ls

-- the level at which a term came
abbrev pub level_of_term : List LevelMark → TermId → ℕ
level_of_term ls id = level_at (terms_of ls) id.0

-- the level at which a clause came
abbrev pub level_of_step : List LevelMark → StepId → ℕ
level_of_step ls s = level_at (steps_of ls) s.0

-- a clause rests on one that has a term of this level
abbrev pub ReachesTerm : List LevelMark → List Logged → StepId → ℕ → Type 0
ReachesTerm ls log s level = (m : StepId) × ((id : TermId) × RestsOn log s m × Contains (named (logged_at log m)) id
    × (level_of_term ls id ≡ level))

-- a clause rests on one that was assumed at this level
abbrev pub ReachesAssume : List LevelMark → List Logged → StepId → ℕ → Type 0
ReachesAssume ls log s level = (m : StepId) × ((id : TermId) × RestsOn log s m × (logged_at log m ≡ assumed id)
    × (level_of_step ls m ≡ level))

-- A number is the scope of a clause: the greatest of the levels of the terms and of the assumed clauses on which it
-- rests.
pub record IsScope (ls : List LevelMark) (log : List Logged) (s : StepId) (scope : ℕ) : Type 0 where
  -- it is not below that of a term
  pub terms : (m : StepId) (id : TermId) → RestsOn log s m → Contains (named (logged_at log m)) id
      → level_of_term ls id ≤ scope
  -- nor below that of an assumed clause
  pub assumes : (m : StepId) (id : TermId) → RestsOn log s m → logged_at log m ≡ assumed id
      → level_of_step ls m ≤ scope
  -- it is that of one of them, or 0
  pub reached : (scope ≡ 0) ⊎ (ReachesTerm ls log s scope ⊎ ReachesAssume ls log s scope)

-- the level of what is just below a number
abbrev pub level_below : List ℕ → ℕ → ℕ
level_below ms zero = 0
level_below ms (suc n) = level_at ms n

-- the scope that a reach gives
abbrev pub scope_by : List LevelMark → ReachView → ℕ
scope_by ls r = max (level_below (terms_of ls) r.terms) (level_below (steps_of ls) r.assumes)
