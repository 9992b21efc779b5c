-- What clauses of a log rest on, and how far their derivations reach.
use Rattle.std.specs.Prelude.{◌≡◌, ℕ, suc, max, List, [], ◌∷◌, ◌++◌, length, map, get_or, Option, Some, None, Contains}
use Rattle.term_core.specs.declared.ids.TermId.{TermId}
use Rattle.proof_log.specs.declared.premises.StepId.{StepId}
use Rattle.proof_log.specs.declared.reach.Reach.{Reach}
use Rattle.proof_log.specs.Logs.{Logged, assumed, stepped, premises_in, logged_at, AreEarlier}

-- The clause of the first number rests on that of the second: it is the same, or one of its premises rests on it.
pub data RestsOn (log : List Logged) : StepId → StepId → Type 0 where
  itself : (s : StepId) → RestsOn log s s
  by_premise : (s p m : StepId) → Contains (premises_in (logged_at log s)) p → RestsOn log p m → RestsOn log s m

-- How far the derivation of a clause reaches.
pub record ReachView : Type 0 where
  -- one past the greatest term of the clauses on which it rests; 0 where these have none
  pub terms : ℕ
  -- one past the greatest number of an assumed one; 0 where none is assumed
  pub assumes : ℕ

-- what no number has
abbrev pub no_reach : ReachView
no_reach = record { terms = 0; assumes = 0 }

-- one past a term, or 0 where there is none
abbrev pub past_term : Option TermId → ℕ
past_term None = 0
past_term (Some id) = suc id.0

-- what a stored reach says
abbrev pub reach_view : Reach → ReachView
reach_view r = record { terms = past_term r.term; assumes = r.assumes }

-- the greater of both, part by part
abbrev pub join : ReachView → ReachView → ReachView
join a b = record { terms = max a.terms b.terms; assumes = max a.assumes b.assumes }

-- one past the greatest of terms, or a number where that is greater
abbrev pub past_from : ℕ → List TermId → ℕ
past_from a [] = a
past_from a (id ∷ ids) = past_from (max a (suc id.0)) ids

-- the reach of a number
abbrev pub reach_in : List ReachView → StepId → ReachView
reach_in rs s = get_or rs s.0 no_reach

-- the greatest reach of these numbers, and of one beside
abbrev pub over_from : List ReachView → ReachView → List StepId → ReachView
over_from rs a [] = a
over_from rs a (p ∷ ps) = over_from rs (join a (reach_in rs p)) ps

-- the reach of a clause of terms alone
abbrev pub of_terms : List TermId → ReachView
of_terms c = record { terms = past_from 0 c; assumes = 0 }

-- the reach of the clause of a number, where these are those of the clauses before it
abbrev pub reach_of : List ReachView → ℕ → Logged → ReachView
reach_of rs n (assumed id) = record { terms = suc id.0; assumes = suc n }
reach_of rs n (stepped r ps qs c) = over_from rs (of_terms c) ps

-- these reaches, with those of more clauses
abbrev pub reaches_after : List ReachView → List Logged → List ReachView
reaches_after rs [] = rs
reaches_after rs (l ∷ ls) = reaches_after (rs ++ reach_of rs (length rs) l ∷ []) ls

-- the reaches of a log's clauses, in order
abbrev pub reaches : List Logged → List ReachView
reaches log = reaches_after [] log

-- the reach of a clause of the log
abbrev pub reach_at : List Logged → StepId → ReachView
reach_at log s = reach_in (reaches log) s

-- What a log keeps fits together.
pub record IsKept (log : List Logged) (rs : List Reach) (marks : List ℕ) : Type 0 where
  -- premises are earlier
  pub earlier : AreEarlier log
  -- the reaches are those of the clauses
  pub reached : map reach_view rs ≡ reaches log
  -- there is a mark for each clause
  pub marked : length marks ≡ length log
