-- Why bounds cannot all be kept: the literals that state them, with weights.
-- Source: Farkas 1902; Dutertre and de Moura, CAV 2006.
use Rattle.std.specs.Prelude.{◌≡◌, ℕ, Bool, true, false, not, cond, List, [], ◌∷◌, map, Some, Err, Contains}
use Rattle.spec_numbers.specs.Fractions.{Fraction}
use Rattle.spec_numbers.specs.Bounds.{Overflow, divided}
use Rattle.spec_sorts.specs.Literals.{Literal}
use Rattle.spec_arithmetic.specs.Signs.{size}
use Rattle.spec_arithmetic.specs.Contradictions.{given, wide, la_generic}
use Rattle.spec_tableaux.specs.Fields.{is_positive}
use Rattle.spec_tableaux.specs.Spaces.{Pair}
use Rattle.spec_tableaux.specs.Rows.{Entry, row_of}
use Rattle.spec_tableaux.specs.LeastVariable.{RuleSays, IsNonbasicFeasible, goes_up, crossed, stuck}
use Rattle.spec_tableaux.specs.Numbers.{Number, numbers}
use Rattle.spec_tableaux.specs.Points.{deltas, Ranges, AssignmentState}
use Rattle.spec_simplex.specs.Constraints.{Relation, equals}
use Rattle.spec_simplex.specs.Weights.{denial}
use Rattle.spec_causes.specs.TermTableau.{TermTableau}
use Rattle.spec_causes.specs.Bounds.{Side, side_by, bound_on, IsBound}

-- the number, or minus it where up is false
abbrev pub directed : Bool → Number → Number
directed true c = c
directed false c = numbers.opposite c

-- the entries of a row with its basic variable, so that their sum is 0
abbrev pub with_basic : ℕ → List (Entry Number) → List (Entry Number)
with_basic b es = record { variable = b; coefficient = numbers.opposite numbers.one } ∷ es

-- the one entry of a variable, with the coefficient 1
abbrev pub unit_entries : ℕ → List (Entry Number)
unit_entries y = record { variable = y; coefficient = numbers.one } ∷ []

-- The bounds of the variables of entries cannot all be kept, as the sum of these is 0: up says whether the sum would
-- have to rise.
pub data Conflicts (ranges : Ranges) (t : AssignmentState) : Bool → List (Entry Number) → Type 0 where
  -- the bounds of a variable cross
  crossing : (y : ℕ) → RuleSays deltas ranges t (crossed y) → Conflicts ranges t true (with_basic y (unit_entries y))
  -- a basic variable violates a bound, and no variable of its row can move
  sticking : (b : ℕ) → IsNonbasicFeasible deltas ranges t → RuleSays deltas ranges t (stuck b)
      → Conflicts ranges t (goes_up deltas ranges t b) (with_basic b (row_of b t.rows).entries)

-- the side on which a variable with the coefficient c is stopped where a sum is to rise, or to fall where up is false
abbrev pub stopping_side : Bool → Number → Side
stopping_side up c = side_by (cond (is_positive numbers c) up (not up))

-- One of the held literals states the bound that stops the variable of an entry.
pub record IsStop (s : TermTableau) (held : List Literal) (ranges : Ranges) (up : Bool) (e : Entry Number)
    (l : Literal) : Type 0 where
  pub is_held : Contains held l
  -- the bound
  pub bound : Pair Number
  pub there : bound_on (stopping_side up e.coefficient) (ranges e.variable) ≡ Some bound
  pub states : IsBound s l e.variable (stopping_side up e.coefficient) bound

-- the weight of a literal for the number q: of an equality this, of an order its size
abbrev pub weight_by : Relation → Number → Fraction
weight_by equals q = q.fraction
weight_by r q = size q.fraction

-- A literal that stops the variable of an entry, with its weight: the coefficient over the factor by which its form
-- bounds it.
pub record IsReason (s : TermTableau) (held : List Literal) (ranges : Ranges) (up : Bool) (e : Entry Number)
    (x : Literal × Fraction) : Type 0 where
  pub stop : IsStop s held ranges up e x.0
  pub weight : x.1 ≡ weight_by stop.states.constraint.relation
      (numbers.times (directed up e.coefficient) (numbers.inverse stop.states.factor))

-- there is a reason for each entry, in their order
abbrev pub AreReasons : TermTableau → List Literal → Ranges → Bool → List (Entry Number) → List (Literal × Fraction)
    → Type 0
AreReasons s held ranges up [] [] = Unit {0}
AreReasons s held ranges up (e ∷ es) (x ∷ xs) = IsReason s held ranges up e x × AreReasons s held ranges up es xs
AreReasons s held ranges up _ _ = ⊥

-- the literals of reasons, in their order
abbrev pub literals_in : List (Literal × Fraction) → List Literal
literals_in xs = map (λ (x : Literal × Fraction). x.0) xs

-- their weights, in the same order
abbrev pub weights_in : List (Literal × Fraction) → List Fraction
weights_in xs = map (λ (x : Literal × Fraction). x.1) xs

-- The reasons of a conflict come to the overflow o.
pub data OverflowsReasons (s : TermTableau) (held : List Literal) (ranges : Ranges) (up : Bool)
    (es : List (Entry Number)) (o : Overflow)
    : Type 0 where
  -- a weight: the coefficient, with its sign by the direction, over the factor
  weighing : (e : Entry Number) → Contains es e → (l : Literal) → (stop : IsStop s held ranges up e l)
      → divided (directed up e.coefficient).fraction stop.states.factor.fraction ≡ Err o
      → OverflowsReasons s held ranges up es o
  -- the sum of the literals' forms by their weights, as the rule adds it up of the clause that not all of them hold
  adding : (xs : List (Literal × Fraction)) → AreReasons s held ranges up es xs
      → la_generic (map denial (literals_in xs)) (map given (weights_in xs)) ≡ Err (wide o)
      → OverflowsReasons s held ranges up es o
