-- Rows that have a solution for all values of terms.
use Rattle.std.specs.Prelude.{◌≡◌, ℕ, suc, ◌<◌, ◌≤◌, List, [], ◌∷◌, Option, None}
use Rattle.spec_tableaux.specs.Rows.{Row}
use Rattle.spec_tableaux.specs.SolvedForms.{AllVariables}
use Rattle.spec_tableaux.specs.Numbers.{Number}
use Rattle.term_core.specs.declared.ids.TermId.{TermId}
use Rattle.simplex_atoms.specs.Owners.{owner_at}

-- The basic variables rise from a number on, below another one; each stands for no term, and is after the variables of
-- its entries.
abbrev pub AreGrounded : List (Option TermId) → ℕ → List (Row Number) → ℕ → Type 0
AreGrounded owners from [] to = from ≤ to
AreGrounded owners from (r ∷ rs) to =
    (from ≤ r.basic) × (owner_at owners r.basic ≡ None) × AllVariables (λ y. y < r.basic) r.entries
    × AreGrounded owners (suc r.basic) rs to
