-- Rows in solved form, and the solutions that they have.
use Rattle.std.specs.Prelude.{◌≡◌, ℕ, suc, ◌≤◌, true, false, List, [], ◌∷◌, cond, ◌==◌}
use Rattle.spec_tableaux.specs.Fields.{Field}
use Rattle.spec_tableaux.specs.Spaces.{Space}
use Rattle.spec_tableaux.specs.Rows.{Entry, Row, is_basic, AreDistinct, sum_of, coefficient_of, row_of}

-- the variables of the entries begin at `from` or above, each is greater than the one before it, and no coefficient is
-- 0
abbrev pub IsTidy : {A : Type 0} → Field A → ℕ → List (Entry A) → Type 0
IsTidy f from [] = Unit {0}
IsTidy f from (e ∷ es) = (from ≤ e.variable) × (f.is_zero e.coefficient ≡ false) × IsTidy f (suc e.variable) es

-- p holds of the variable of each entry
abbrev pub AllVariables : {A : Type 0} → (ℕ → Type 0) → List (Entry A) → Type 0
AllVariables p [] = Unit {0}
AllVariables p (e ∷ es) = p e.variable × AllVariables p es

-- the entries of each row are tidy
abbrev pub AreTidy : {A : Type 0} → Field A → List (Row A) → Type 0
AreTidy f [] = Unit {0}
AreTidy f (r ∷ rs) = IsTidy f 0 r.entries × AreTidy f rs

-- p holds of the variable of each entry of each row
abbrev pub AllRowVariables : {A : Type 0} → (ℕ → Type 0) → List (Row A) → Type 0
AllRowVariables p [] = Unit {0}
AllRowVariables p (r ∷ rs) = AllVariables p r.entries × AllRowVariables p rs

-- y is nonbasic: no row has it as its basic variable
abbrev pub IsNonbasic : {A : Type 0} → List (Row A) → ℕ → Type 0
IsNonbasic rs y = is_basic y rs ≡ false

-- Rows in solved form: one row for each basic variable, tidy, over nonbasic variables.
pub record IsSolved {A : Type 0} (f : Field A) (rs : List (Row A)) : Type 0 where
  pub distinct : AreDistinct rs
  pub tidy : AreTidy f rs
  pub nonbasic : AllRowVariables (IsNonbasic rs) rs

-- The basic variable b and the nonbasic variable x can be exchanged: the row of b has an entry of x.
pub record IsPivot {A : Type 0} (f : Field A) (rs : List (Row A)) (b x : ℕ) : Type 0 where
  pub basic : is_basic b rs ≡ true
  pub nonbasic : is_basic x rs ≡ false
  pub entry : f.is_zero (coefficient_of f x (row_of b rs).entries) ≡ false

-- the values in which x is u, and each other variable is nothing
abbrev pub unit_values : {A V : Type 0} → Space A V → ℕ → V → ℕ → V
unit_values s x u y = cond (y == x) u s.origin

-- the values in which nonbasic variables are as in v, and basic ones follow by their rows
abbrev pub extended : {A V : Type 0} → Space A V → List (Row A) → (ℕ → V) → ℕ → V
extended s rs v y = cond (is_basic y rs) (sum_of s v (row_of y rs).entries) (v y)
