-- Stores of clauses as contracts see them.
use Rattle.std.specs.Prelude.{◌≡◌, ◌≢◌, ◌+◌, ◌<◌, ◌≤◌, ◌==◌, ◌⊎◌, if◌then◌else◌, ℕ, List, [], ◌∷◌, ◌++◌, length, map}
use Rattle.std.specs.Prelude.{take, get_or, All, Contains}
use Rattle.std.specs.List.{sum_by}
use Rattle.term_core.specs.declared.ids.Lit.{Lit}
use Rattle.term_core.specs.Tables.{TableView, clause_at}
use Rattle.clause_literals.specs.Literals.{LiteralsMean}
use Rattle.proof_log.specs.declared.premises.StepId.{StepId}
use Rattle.proof_log.specs.Logs.{Logged, named, logged_at}
use Rattle.sat_trail.specs.Trails.{TrailView, no_lit}
use Rattle.watch_index.specs.Indexes.{code, one_if}
use Rattle.clause_store.specs.declared.pair.Pair.{Pair}

-- Clauses, each with the step that derives it.
pub record StoreView : Type 0 where
  -- the clauses by their literals, oldest first
  pub clauses : List (List Lit)
  -- their steps, in the same order
  pub steps : List StepId
  -- the literals that held when propagation was quiet last, as far as the next call relies on them
  pub seen : List Lit
  -- the two literals of each that watch it, in the same order
  pub pairs : List Pair

-- the store of no clauses
abbrev pub empty : StoreView
empty = record { clauses = []; steps = []; seen = []; pairs = [] }

-- what no number of a list of steps means
abbrev pub no_step : StepId
no_step = record { 0 = 0 }

-- what no number of a list of pairs means
abbrev pub no_pair : Pair
no_pair = record { first = no_lit; second = no_lit }

-- how many literals of a pair of two have that code
abbrev pub hits : Pair → ℕ → ℕ
hits p k = if code p.first == code p.second then 0 else one_if (code p.first == k) + one_if (code p.second == k)

-- how often the number of a clause is in the list of a code
abbrev pub hits_at : List Pair → ℕ → ℕ → ℕ
hits_at pairs n k = get_or (map (λ p. hits p k) pairs) n 0

-- how often a number is in a list
abbrev pub tally : ℕ → List ℕ → ℕ
tally n ks = sum_by (λ m. one_if (m == n)) ks

-- Two different literals of a clause watch it.
pub record IsWatchedTwice (clause : List Lit) (p : Pair) : Type 0 where
  -- the one is a literal of the clause
  pub has_first : Contains clause p.first
  -- so is the other
  pub has_second : Contains clause p.second
  -- they are two
  pub differ : p.first ≢ p.second

-- The list has the numbers of the clauses that a literal watches, each once.
pub record AreWatchedBy (s : StoreView) (l : Lit) (list : List ℕ) : Type 0 where
  -- a number is that of a clause which the literal watches
  pub there : (n : ℕ) → Contains list n → (n < length s.clauses)
      × IsWatchedTwice (get_or s.clauses n []) (get_or s.pairs n no_pair)
      × (((get_or s.pairs n no_pair).first ≡ l) ⊎ ((get_or s.pairs n no_pair).second ≡ l))
  -- the number of each such clause occurs once
  pub once : (n : ℕ) → n < length s.clauses → (get_or s.pairs n no_pair).first ≢ (get_or s.pairs n no_pair).second
      → ((get_or s.pairs n no_pair).first ≡ l) ⊎ ((get_or s.pairs n no_pair).second ≡ l) → tally n list ≡ 1

-- each literal's term is one of so many variables
abbrev pub LiteralsAreBelow : StoreView → ℕ → Type 0
LiteralsAreBelow s vars = All (All (λ (l : Lit). l.term.0 < vars)) s.clauses

-- What the trail has marked as propagated are the oldest literals of what the store has seen.
pub record HasSeen (s : StoreView) (t : TrailView) : Type 0 where
  -- it is no more than was seen
  pub within : t.propagated ≤ length s.seen
  -- and the same
  pub same : take t.propagated t.literals ≡ take t.propagated s.seen

-- The clauses are as they were, with their steps.
pub record HasSameClauses (old new : StoreView) : Type 0 where
  -- the clauses
  pub clauses : new.clauses ≡ old.clauses
  -- their steps
  pub steps : new.steps ≡ old.steps

-- The clause of a step is last.
pub record IsAdded (t : TableView) (log : List Logged) (step : StepId) (old new : StoreView) : Type 0 where
  -- its literals
  pub clause : List Lit
  -- they are those of the step's clause
  pub means : LiteralsMean t clause (clause_at t (named (logged_at log step)))
  -- the clause is the last
  pub clauses : new.clauses ≡ old.clauses ++ clause ∷ []
  -- so is its step
  pub steps : new.steps ≡ old.steps ++ step ∷ []
  -- what was seen is as it was
  pub seen : new.seen ≡ old.seen
