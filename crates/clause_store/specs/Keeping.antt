-- What stays of a store's lists, and its new numbers.
use Rattle.std.specs.Prelude.{◌≡◌, ◌<◌, ℕ, suc, List, [], ◌∷◌, length, take, set, get_or, Option, Some, None}
use Rattle.std.specs.List.{filter_map, swap}
use Rattle.term_core.specs.declared.ids.Lit.{Lit}
use Rattle.proof_log.specs.declared.premises.StepId.{StepId}
use Rattle.clause_store.specs.declared.entry.StoredClause.{StoredClause}
use Rattle.clause_store.specs.Stores.{no_step}
use Rattle.clause_store.specs.Entries.{clauses_of, steps_of}

-- the elements at the places that have a step, in order
abbrev pub staying : {X : Type 0} → List (Option StepId) → List X → List X
staying [] xs = []
staying (o ∷ kept) [] = []
staying (None ∷ kept) (x ∷ xs) = staying kept xs
staying (Some step ∷ kept) (x ∷ xs) = x ∷ staying kept xs

-- the steps that are there, in order
abbrev pub steps_in : List (Option StepId) → List StepId
steps_in kept = filter_map (λ o. o) kept

-- how many of the first places have a step
abbrev pub count_first : List (Option StepId) → ℕ → ℕ
count_first kept n = length (steps_in (take n kept))

-- the next number, or none for a place without a step
abbrev pub number_if : Option StepId → ℕ → Option ℕ
number_if None next = None
number_if (Some step) next = Some next

-- the number after it
abbrev pub next_after : Option StepId → ℕ → ℕ
next_after None next = next
next_after (Some step) next = suc next

-- the places that have a step, counted from a number on
abbrev pub numbered_from : ℕ → List (Option StepId) → List (Option ℕ)
numbered_from next [] = []
numbered_from next (o ∷ kept) = number_if o next ∷ numbered_from (next_after o next) kept

-- what comes of the element at a place: it stays behind, or changes places with one that does not come after it
abbrev pub ChoosesOne : {X : Type 0} → Option StepId → (at to : ℕ) → (old new : List X) → ℕ → Type 0
ChoosesOne None at to old new next = (new ≡ old) × (next ≡ to)
ChoosesOne (Some step) at to old new next = (new ≡ swap old to at) × (next ≡ suc to)

-- the steps with another one at a place, if there is one
abbrev pub with_step : List StepId → ℕ → Option StepId → List StepId
with_step steps n None = steps
with_step steps n (Some step) = set steps n step

-- A clause stays with its step, by a new number.
pub record StaysAs (kept : List (Option StepId)) (clauses : List (List Lit)) (old new : ℕ) : Type 0 where
  -- it has been one of the clauses
  pub was : old < length clauses
  -- and is one
  pub there : new < length (staying kept clauses)
  -- its step
  pub step : get_or kept old None ≡ Some (get_or (steps_in kept) new no_step)
  -- its literals
  pub clause : get_or (staying kept clauses) new [] ≡ get_or clauses old []

-- The entries are those that stay, with the steps given.
pub record KeepsEntries (kept : List (Option StepId)) (old new : List StoredClause) : Type 0 where
  -- the clauses
  pub clauses : clauses_of new ≡ staying kept (clauses_of old)
  -- their steps
  pub steps : steps_of new ≡ steps_in kept
