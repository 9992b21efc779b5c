use Rattle.simplex_bounds.proofs.Changes.{all_there}
use Rattle.simplex_bounds.proofs.held.Bounds.held_are_of_variables.Goals as goal

pub returns : goal.returns
returns c = rw (← c.self.view_is) (all_there c.self.inside.limits.items c.self.inside.entries.items c.self.invariant.there)
