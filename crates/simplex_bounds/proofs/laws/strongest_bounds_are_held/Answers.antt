use Rattle.simplex_bounds.proofs.Keeping.{strongest_is_held}
use Rattle.simplex_bounds.proofs.laws.strongest_bounds_are_held.Goals as goal

pub returns : goal.returns
returns c = strongest_is_held
