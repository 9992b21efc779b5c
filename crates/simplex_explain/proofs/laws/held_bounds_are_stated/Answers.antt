-- Each bound comes from a literal that is held.
use Rattle.simplex_explain.proofs.StatedBounds.{bounds_stated, literals_held}
use Rattle.simplex_explain.proofs.laws.held_bounds_are_stated.Goals as goal

pub returns-clause-stated : goal.returns-clause-stated
returns-clause-stated c = bounds_stated

pub returns-clause-held : goal.returns-clause-held
returns-clause-held c = literals_held
