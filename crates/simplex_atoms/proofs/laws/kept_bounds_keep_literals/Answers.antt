-- The form compares with 0 as the variable does to the bound.
use Rattle.simplex_atoms.proofs.Keeping.{kept}
use Rattle.simplex_atoms.proofs.laws.kept_bounds_keep_literals.Goals as goal

pub returns : goal.returns
returns c = kept
