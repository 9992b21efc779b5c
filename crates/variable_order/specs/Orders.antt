-- Orders of variables as contracts see them: for each variable, by its number, whether it is in the order.
use Rattle.std.specs.Prelude.{◌≡◌, List, Bool, true, false, get_or, set}
use Rattle.term_core.specs.declared.ids.TermId.{TermId}

-- the variable is in the order
abbrev pub IsIn : List Bool → TermId → Type 0
IsIn members v = get_or members v.0 false ≡ true

-- no variable is
abbrev pub IsEmpty : List Bool → Type 0
IsEmpty members = (v : TermId) → IsIn members v → ⊥

-- One variable is taken out, and no other.
pub record IsRemoved (old : List Bool) (v : TermId) (new : List Bool) : Type 0 where
  -- it was in
  pub was_in : IsIn old v
  -- it is so no more
  pub members : new ≡ set old v.0 false
