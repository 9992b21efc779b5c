-- Numbers that are marked no more.
use Rattle.std.specs.Prelude.{◌≡◌, ◌⊎◌, ℕ, Bool, List, length, Contains}
use Rattle.term_core.specs.declared.ids.TermId.{TermId}
use Rattle.term_clauses.specs.Marks.{IsMarked}

-- The marks without those of some numbers.
pub record Unmarks (old : List Bool) (ids : List TermId) (new : List Bool) : Type 0 where
  -- there are as many
  pub length : length new ≡ length old
  -- what is marked was
  pub were : (k : ℕ) → IsMarked new k → IsMarked old k
  -- none of the numbers is
  pub none : (id : TermId) → Contains ids id → IsMarked new id.0 → ⊥
  -- and all others that were are
  pub kept : (k : ℕ) → IsMarked old k → IsMarked new k ⊎ ((id : TermId) × Contains ids id × (id.0 ≡ k))
