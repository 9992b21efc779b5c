-- Tableaus with a value of each variable.
use Rattle.std.specs.Prelude.{◌≡◌, List, [], ◌∷◌, ◌++◌, length, map}
use Rattle.spec_tableaux.specs.Spaces.{Pair}
use Rattle.spec_tableaux.specs.Rows.{Entry, Row, Solves, sum_of}
use Rattle.spec_tableaux.specs.LeastVariable.{State}
use Rattle.spec_tableaux.specs.Numbers.{Number}
use Rattle.tableau.specs.Views.{TableauView, empty, with_variable, with_sum}
use Rattle.simplex_bounds.specs.Deltas.{pair_of}
use Rattle.spec_tableaux.specs.Points.{deltas, point_in}
use Rattle.sat_budget.specs.declared.limits.Basis.{Basis}

-- A tableau, and the values of its variables.
pub record AssignmentView : Type 0 where
  pub tableau : TableauView
  -- the value of each variable, by its number from 0
  pub values : List (Pair Number)

-- the rows in solved form, and the point
abbrev pub state_of : AssignmentView → State Number (Pair Number)
state_of b = record { rows = b.tableau.rows; point = point_in b.values }

-- What holds of each assignment.
pub record IsRealAssignment (b : AssignmentView) : Type 0 where
  -- there are as many values as variables
  pub lengths : length b.values ≡ b.tableau.variables
  -- the point solves the rows
  pub solves : Solves deltas (point_in b.values) b.tableau.rows

-- the assignment without variables
abbrev pub empty_assignment : AssignmentView
empty_assignment = record { tableau = empty; values = [] }

-- the assignment with one variable more, which is in no row, at the origin
abbrev pub assignment_with_variable : AssignmentView → AssignmentView
assignment_with_variable b = record { tableau = with_variable b.tableau; values = b.values ++ deltas.origin ∷ [] }

-- the assignment with a new variable, which is the sum of the entries es
abbrev pub assignment_with_sum : AssignmentView → List (Entry Number) → AssignmentView
assignment_with_sum b es = record {
  tableau = with_sum b.tableau es;
  values = b.values ++ sum_of deltas (point_in b.values) es ∷ [];
}

-- the variables are the basic ones, in the order of their rows, and the values are those of all variables
abbrev pub IsBasisOf : AssignmentView → Basis → Type 0
IsBasisOf b basis =
    (basis.variables.items ≡ map (λ (r : Row Number). r.basic) b.tableau.rows)
    × (map pair_of basis.values.items ≡ b.values)
