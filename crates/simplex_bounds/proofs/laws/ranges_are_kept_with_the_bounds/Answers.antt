use Rattle.simplex_bounds.proofs.Keeping.{ranges_kept}
use Rattle.simplex_bounds.proofs.laws.ranges_are_kept_with_the_bounds.Goals as goal

pub returns : goal.returns
returns c = ranges_kept
