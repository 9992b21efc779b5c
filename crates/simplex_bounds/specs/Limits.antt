-- The strongest bounds of one variable.
use Rattle.std.specs.Prelude.{ℕ, Bool, List, Option, None}
use Rattle.spec_tableaux.specs.Ranges.{crosses}
use Rattle.simplex_bounds.specs.declared.bounds.Bound.{Bound}
use Rattle.simplex_bounds.specs.declared.bounds.Side.{Side}
use Rattle.simplex_bounds.specs.declared.bounds.Side.TheVariants.{Lower, Upper}
use Rattle.simplex_bounds.specs.declared.limits.VariableLimits.{VariableLimits}
use Rattle.spec_tableaux.specs.Points.{deltas}
use Rattle.simplex_bounds.specs.Held.{stronger, strongest, value_in}

-- a variable has no bounds
abbrev pub unlimited : VariableLimits
unlimited = record { lower = None; upper = None }

-- the bound of a side
abbrev pub limit_at : Side → VariableLimits → Option Bound
limit_at Lower l = l.lower
limit_at Upper l = l.upper

-- with this bound on a side
abbrev pub with_limit : Side → Option Bound → VariableLimits → VariableLimits
with_limit Lower b l = record { lower = b; upper = l.upper }
with_limit Upper b l = record { lower = l.lower; upper = b }

-- once a bound of the variable is held
abbrev pub tightened : VariableLimits → Bound → VariableLimits
tightened l b = with_limit b.side (stronger (limit_at b.side l) b) l

-- the lower bound is above the upper one
abbrev pub are_crossed : VariableLimits → Bool
are_crossed l = crosses deltas (value_in l.lower) (value_in l.upper)

-- the strongest bounds of a variable
abbrev pub limits_in : List Bound → ℕ → VariableLimits
limits_in held y = record { lower = strongest Lower y held; upper = strongest Upper y held }
