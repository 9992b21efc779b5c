-- How many runs of exchanges a search may make: one for each check of bounds that makes exchanges; after a check that
-- found
-- nothing wrong the next one finds each bound kept, unless an atom or a literal of one came.
use Rattle.std.specs.Prelude.{◌≡◌, ◌+◌, ◌*◌, ◌≤◌, ℕ, suc, Bool, true, cond, List, length, Contains}
use Rattle.std.specs.List.{filter}
use Rattle.std.specs.Option.{is_some}
use Rattle.spec_sorts.specs.Terms.{Term}
use Rattle.spec_sorts.specs.Subsets.{AreOnce}
use Rattle.spec_simplex.specs.Constraints.{constraint_of}

-- the term is an atom of linear arithmetic: it says something of numbers
abbrev pub is_arithmetic : Term → Bool
is_arithmetic u = is_some (constraint_of (record { atom = u; positive = true }))

-- the atoms of linear arithmetic among terms
abbrev pub arithmetic_in : List Term → List Term
arithmetic_in ts = filter is_arithmetic ts

-- one more, for an atom of linear arithmetic
abbrev pub counted : Term → ℕ → ℕ
counted u n = cond (is_arithmetic u) (suc n) n

-- how many runs a search may make that learned l clauses over a atoms of linear arithmetic
abbrev pub most_runs : (l a : ℕ) → ℕ
most_runs l a = (1 + l + a) * (1 + a)

-- So many runs are few over terms for a search that learned l clauses.
pub record AreFewRuns (ts : List Term) (l runs : ℕ) : Type 0 where
  -- different atoms of linear arithmetic
  pub atoms : List Term
  pub different : AreOnce atoms
  -- which are among the terms
  pub among : (u : Term) → Contains atoms u → Contains ts u × (is_arithmetic u ≡ true)
  -- and no more runs than these allow
  pub few : runs ≤ most_runs l (length atoms)
