use Rattle.std.proofs.Common.{◌<◌, length, reverse}
use Rattle.explain_forest.specs.Forest.{Linked}
use Rattle.explain_forest.specs.Kept.{height}
use Rattle.explain_forest.proofs.climb.find.Given as goal

abbrev pub invariant-climb : goal.invariant-climb
invariant-climb l = record {
  low : l.at < length l.parents;
  linked : Linked (reverse l.edges) l.at l.t;
}

abbrev pub decreases-climb : goal.decreases-climb
decreases-climb l = height l.stamps (length l.edges) l.at
