use Rattle.std.proofs.Common.{◌≤◌, length, reverse, subst}
use Rattle.explain_forest.proofs.Room.{edges-few}
use Rattle.explain_forest.proofs.forest.Forest.edges_are_few.Goals as goal

pub returns : goal.returns
returns c = subst (λ f. length f.now.edges ≤ f.now.terms) c.self.view_is (edges-few (length c.self.inside.parents.items) (reverse c.self.inside.edges.items) c.self.invariant.shows.apart)
