use Rattle.explain_forest.specs.Forest.{no_edge}
use Rattle.explain_forest.proofs.Paths.{edge-numbered}
use Rattle.explain_forest.proofs.explain.edge_of.Goals as goal

pub returns : goal.returns
returns c = edge-numbered c.args.edges.now c.args.k no_edge c.requires
