-- Values that change together.
use Rattle.std.specs.Prelude.{◌≡◌, ℕ, ◌<◌, Bool, false, ◌==◌, ◌||◌, List, [], ◌∷◌, cond}
use Rattle.spec_tableaux.specs.Spaces.{Pair}
use Rattle.spec_tableaux.specs.Numbers.{Number}
use Rattle.simplex_bounds.specs.Deltas.{pair_of}
use Rattle.simplex_check.specs.declared.changes.ValueChange.{ValueChange}

-- y is one of the variables that change
abbrev pub is_changed : ℕ → List ValueChange → Bool
is_changed y [] = false
is_changed y (c ∷ cs) = (y == c.variable) || is_changed y cs

-- the point once the changes are made, one after the other
abbrev pub written : List ValueChange → (ℕ → Pair Number) → ℕ → Pair Number
written [] v y = v y
written (c ∷ cs) v y = written cs (λ z. cond (z == c.variable) (pair_of c.value) (v z)) y

-- each changed variable is below n
abbrev pub ChangesAreBelow : ℕ → List ValueChange → Type 0
ChangesAreBelow n [] = Unit {0}
ChangesAreBelow n (c ∷ cs) = (c.variable < n) × ChangesAreBelow n cs

-- each changed variable comes to its value at the point w
abbrev pub ComeTo : (ℕ → Pair Number) → List ValueChange → Type 0
ComeTo w [] = Unit {0}
ComeTo w (c ∷ cs) = (pair_of c.value ≡ w c.variable) × ComeTo w cs

-- The changes lead from the point v to the point w.
pub record Lead (v w : ℕ → Pair Number) (cs : List ValueChange) : Type 0 where
  -- each that is changed comes to its value at w
  pub come : ComeTo w cs
  -- each other has it
  pub others : (y : ℕ) → is_changed y cs ≡ false → w y ≡ v y
