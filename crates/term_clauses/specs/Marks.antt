-- Numbers that are marked.
use Rattle.std.specs.Prelude.{◌≡◌, ◌⊎◌, ℕ, ◌<◌, ◌≤◌, Bool, true, false, List, [], ◌∷◌, length, map, All, Contains}
use Rattle.std.specs.Prelude.{slice_index_or}
use Rattle.spec_sorts.specs.Terms.{Term, no_term}
use Rattle.spec_sorts.specs.Subterms.{subterms_of}
use Rattle.spec_sorts.specs.Subsets.{AreAmong, AreOnce}
use Rattle.term_core.specs.declared.ids.TermId.{TermId}
use Rattle.term_core.specs.Tables.{TableView, clause_at}
use Rattle.term_clauses.specs.SpokenTerms.{AreRising}

-- the number is marked
abbrev pub IsMarked : List Bool → ℕ → Type 0
IsMarked marks k = slice_index_or marks k false ≡ true

-- MarksTerms with those of some numbers more.
pub record MarksTerms (old : List Bool) (ids : List TermId) (new : List Bool) : Type 0 where
  -- there are as many
  pub length : length new ≡ length old
  -- what was marked is
  pub kept : (k : ℕ) → IsMarked old k → IsMarked new k
  -- so is each of the numbers
  pub there : (id : TermId) → Contains ids id → IsMarked new id.0
  -- and nothing else
  pub no_others : (k : ℕ) → IsMarked new k → IsMarked old k ⊎ ((id : TermId) × Contains ids id × (id.0 ≡ k))

-- the terms whose numbers are marked, in order
abbrev pub marked : List Bool → List Term → List Term
marked (true ∷ marks) (t ∷ ts) = t ∷ marked marks ts
marked (false ∷ marks) (t ∷ ts) = marked marks ts
marked marks ts = []

-- The marked numbers are those of the subterms of terms.
pub record AreMarksOf (t : TableView) (roots : List TermId) (marks : List Bool) : Type 0 where
  -- they are no more than the terms
  pub short : length marks ≤ length t.terms
  -- each subterm is marked
  pub each : AreAmong (subterms_of (clause_at t roots)) (marked marks t.terms)
  -- and nothing else
  pub only : AreAmong (marked marks t.terms) (subterms_of (clause_at t roots))
  -- each once
  pub once : AreOnce (marked marks t.terms)

-- The numbers are those that are marked, in ascending order.
pub record AreMarked (marks : List Bool) (ids : List TermId) : Type 0 where
  -- each is within the marks
  pub below : All (λ id. id.0 < length marks) ids
  -- their terms are the marked ones
  pub terms : (ts : List Term) → length marks ≤ length ts → map (λ id. slice_index_or ts id.0 no_term) ids
      ≡ marked marks ts
  -- a later number is greater
  pub rising : AreRising ids
