-- States that are one, and exchanges that come back to a state or do not.
-- Source: Bland, New finite pivoting rules for the simplex method, 1977.
use Rattle.std.specs.Prelude.{◌≡◌, ℕ, ◌<◌, true, List, [], ◌∷◌, ◌++◌}
use Rattle.spec_tableaux.specs.Spaces.{Space}
use Rattle.spec_tableaux.specs.Rows.{Row, is_basic}
use Rattle.spec_tableaux.specs.SolvedForms.{IsNonbasic, IsSolved, AllRowVariables}
use Rattle.spec_tableaux.specs.Ranges.{Range}
use Rattle.spec_tableaux.specs.LeastVariable.{State, Move, exchange, Exchanges, MakesPivots, IsNonbasicFeasible}

-- Two states are one: they have the same basic variables, and the same values of the nonbasic ones.
pub record AreSameState {A V : Type 0} (t u : State A V) : Type 0 where
  pub basic : (y : ℕ) → is_basic y t.rows ≡ is_basic y u.rows
  pub values : (y : ℕ) → IsNonbasic t.rows y → u.point y ≡ t.point y

-- The variables of the rows are below n.
pub record AreBelow {A : Type 0} (n : ℕ) (rs : List (Row A)) : Type 0 where
  -- the basic ones
  pub basics : (b : ℕ) → is_basic b rs ≡ true → b < n
  -- and those of the entries
  pub entries : AllRowVariables (λ y. y < n) rs

-- the exchanges es, each a leaving and an entering variable, lead from t to u, by whatever rule they are chosen
abbrev pub LeadsTo : {A V : Type 0} → Space A V → (ℕ → Range V) → State A V → List (ℕ × ℕ) → State A V → Type 0
LeadsTo s ranges t [] u = t ≡ u
LeadsTo s ranges t (e ∷ es) u = (m : State _ _) × Exchanges s ranges t e.0 e.1 m × LeadsTo s ranges m es u

-- the exchanges es lead from t on to no state twice: where some of them, one after the other, lead from a state to the
-- same one, they are none
abbrev pub RepeatsNoState : {A V : Type 0} → Space A V → (ℕ → Range V) → State A V → List (ℕ × ℕ) → Type 0
RepeatsNoState s ranges t es =
    (before during after : List (ℕ × ℕ)) → es ≡ before ++ (during ++ after) → (u w : State _ _)
    → LeadsTo s ranges t before u → LeadsTo s ranges u during w → AreSameState u w → during ≡ []

-- the move leads from u to none of the states from which the rule came to u
abbrev pub NeverReturns : {A V : Type 0} → Space A V → (ℕ → Range V) → State A V → Move → Type 0
NeverReturns s ranges u (exchange b x) =
    (t w : State _ _) (es : List (ℕ × ℕ)) → IsSolved s.numbers t.rows → IsNonbasicFeasible s ranges t
    → MakesPivots s ranges t es u → Exchanges s ranges u b x w → AreSameState t w → ⊥
NeverReturns s ranges u _ = Unit {0}
