-- The variables of a form as entries of a tableau.
use Rattle.std.specs.Prelude.{◌≡◌, ℕ, List, [], ◌∷◌}
use Rattle.spec_numbers.specs.Fractions.{Fraction}
use Rattle.spec_sorts.specs.Terms.{Term}
use Rattle.spec_tableaux.specs.Rows.{Entry}
use Rattle.spec_tableaux.specs.Numbers.{Number}

-- An entry stands for a variable with its coefficient, where variables of that number are these terms.
pub record IsEntry (at : ℕ → Term) (e : Entry Number) (x : Term × Fraction) : Type 0 where
  pub variable : at e.variable ≡ x.0
  pub coefficient : e.coefficient.fraction ≡ x.1

-- the entries are a form's variables with their coefficients, in order, where variables of that number are these terms
abbrev pub AreEntries : (ℕ → Term) → List (Entry Number) → List (Term × Fraction) → Type 0
AreEntries at [] [] = Unit {0}
AreEntries at (e ∷ es) (x ∷ xs) = IsEntry at e x × AreEntries at es xs
AreEntries at _ _ = ⊥

-- values of variables by their numbers are those of the terms, for the variables of the entries
abbrev pub AreValues : {V : Type 0} → (ℕ → Term) → (Term → V) → (ℕ → V) → List (Entry Number) → Type 0
AreValues at n v [] = Unit {0}
AreValues at n v (e ∷ es) = (v e.variable ≡ n (at e.variable)) × AreValues at n v es
