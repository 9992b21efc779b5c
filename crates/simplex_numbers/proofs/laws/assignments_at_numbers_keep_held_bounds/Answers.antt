use Rattle.simplex_numbers.proofs.Holding.{held_at}
use Rattle.simplex_numbers.proofs.laws.assignments_at_numbers_keep_held_bounds.Goals as goal

pub returns : goal.returns
returns c = held_at
