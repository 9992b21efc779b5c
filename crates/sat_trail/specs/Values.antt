-- Values by variable.
use Rattle.std.specs.Prelude.{◌≡◌, List, Bool, get_or, Contains, Option, Some, None}
use Rattle.term_core.specs.declared.ids.Lit.{Lit}
use Rattle.sat_trail.specs.Trails.{VariablesAreApart}

-- The values are those of the literals that hold, each variable of which occurs once.
pub record HasValues (held : List Lit) (values : List (Option Bool)) : Type 0 where
  -- the variable of a literal that holds has its sign as value
  pub there : (l : Lit) → Contains held l → get_or values l.term.0 None ≡ Some l.positive
  -- a value is that of a literal that holds
  pub only : (l : Lit) → get_or values l.term.0 None ≡ Some l.positive → Contains held l
  -- no variable occurs twice
  pub once : VariablesAreApart held
