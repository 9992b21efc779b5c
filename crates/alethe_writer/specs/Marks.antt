-- Numbers that are marked.
use Rattle.std.specs.Prelude.{◌≡◌, ◌⊎◌, ℕ, ◌<◌, Bool, true, false, List, length, map, Contains, get_or, slice_index_or}
use Rattle.spec_sorts.specs.Terms.{no_term}
use Rattle.spec_sorts.specs.Subsets.{arguments_of}
use Rattle.term_core.specs.declared.ids.TermId.{TermId}
use Rattle.term_core.specs.Tables.{TableView}
use Rattle.spec_proof_texts.specs.Plans.{IsSupport, ArePrinted}
use Rattle.proof_log.specs.Logs.{Logged, named, no_logged, derivation_in}

-- the number is marked
abbrev pub IsNumberMarked : List Bool → ℕ → Type 0
IsNumberMarked marks k = get_or marks k false ≡ true

-- the numbers of terms, as plain ones
abbrev pub plain_numbers : List TermId → List ℕ
plain_numbers ids = map (λ id. id.0) ids

-- MarksNumbers with those of some numbers more.
pub record MarksNumbers (old : List Bool) (numbers : List ℕ) (new : List Bool) : Type 0 where
  -- there are as many
  pub same_length : length new ≡ length old
  -- what was marked is
  pub kept : (k : ℕ) → IsNumberMarked old k → IsNumberMarked new k
  -- so is each of the numbers
  pub there : (k : ℕ) → Contains numbers k → IsNumberMarked new k
  -- and nothing else
  pub no_others : (k : ℕ) → IsNumberMarked new k → IsNumberMarked old k ⊎ Contains numbers k

-- What can be reached from roots, step by step.
pub data Reaches (Root : ℕ → Type 0) (Next : ℕ → ℕ → Type 0) : ℕ → Type 0 where
  root : (k : ℕ) → Root k → Reaches Root Next k
  onward : (j k : ℕ) → Reaches Root Next j → Next j k → Reaches Root Next k

-- the second number is that of an argument of the first one's term
abbrev pub IsArgument : TableView → ℕ → ℕ → Type 0
IsArgument t j k = (k < length t.terms)
    × Contains (arguments_of (slice_index_or t.terms j no_term)) (slice_index_or t.terms k no_term)

-- The marks are of the terms of marked clauses.
pub record AreOfClauses (t : TableView) (log : List Logged) (support : List Bool) (marks : List Bool) : Type 0 where
  -- there is one for each term
  pub as_many : length marks ≡ length t.terms
  -- each term of a marked clause is marked
  pub each : (m : ℕ) (id : TermId) → IsNumberMarked support m → Contains (named (slice_index_or log m no_logged)) id
      → IsNumberMarked marks id.0
  -- and nothing else
  pub only : (k : ℕ) → IsNumberMarked marks k → (m : ℕ) × (id : TermId) × IsNumberMarked support m
      × Contains (named (slice_index_or log m no_logged)) id × (id.0 ≡ k)

-- The marks are those of the marked terms and of all their subterms.
pub record Closes (t : TableView) (old new : List Bool) : Type 0 where
  -- there are as many
  pub same_length : length new ≡ length old
  -- each that can be reached is marked
  pub each : (k : ℕ) → Reaches (IsNumberMarked old) (IsArgument t) k → IsNumberMarked new k
  -- and nothing else
  pub only : (k : ℕ) → IsNumberMarked new k → Reaches (IsNumberMarked old) (IsArgument t) k

-- of each clause on whose antecedents the first marks are, the others are on the terms that are printed
abbrev pub ArePrintedFor : TableView → List Logged → List Bool → List Bool → Type 0
ArePrintedFor t log support marks = (n : ℕ) → IsSupport (derivation_in t log) n support
    → ArePrinted t.terms (derivation_in t log) n marks
