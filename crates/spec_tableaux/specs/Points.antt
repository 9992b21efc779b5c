-- Values of variables with an infinitesimal part, as a check of bounds computes with them.
-- Source: Dutertre and de Moura, A Fast Linear-Arithmetic Solver for DPLL(T), CAV 2006.
use Rattle.std.specs.Prelude.{ℕ, List, get_or}
use Rattle.spec_tableaux.specs.Spaces.{Space, Pair, pairs}
use Rattle.spec_tableaux.specs.Rows.{Row}
use Rattle.spec_tableaux.specs.Ranges.{Range}
use Rattle.spec_tableaux.specs.LeastVariable.{State}
use Rattle.spec_tableaux.specs.Numbers.{Number, numbers}
use Rattle.spec_tableaux.specs.Deltas.{Delta}

-- what is computed with pairs of fractions
abbrev pub deltas : Space Number (Pair Number)
deltas = pairs numbers

-- a pair as a number with an infinitesimal part
abbrev pub delta_in : Pair Number → Delta
delta_in p = record { base = p.base.fraction; tilt = p.tilt.fraction }

-- the ranges of all variables
abbrev pub Ranges : Type 0
Ranges = ℕ → Range (Pair Number)

-- the values as a point, which is the origin where there is no variable
abbrev pub point_in : List (Pair Number) → ℕ → Pair Number
point_in vs y = get_or vs y deltas.origin

-- rows, and the value of each variable
abbrev pub AssignmentState : Type 0
AssignmentState = State Number (Pair Number)

-- rows and values as a state
abbrev pub state_at : List (Row Number) → List (Pair Number) → AssignmentState
state_at rs vs = record { rows = rs; point = point_in vs }
