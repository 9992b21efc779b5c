use Rattle.std.proofs.Common.{◌+◌, length, reverse}
use Rattle.explain_forest.specs.Kept.{height, Climbs}
use Rattle.explain_forest.proofs.climb.top.Given as goal

abbrev pub invariant-climb : goal.invariant-climb
invariant-climb l = Climbs (length l.parents) (reverse l.edges) l.stamps (l.x, l.y) (l.u, l.v)

abbrev pub decreases-climb : goal.decreases-climb
decreases-climb l = height l.stamps (length (reverse l.edges)) l.u + height l.stamps (length (reverse l.edges)) l.v
