use Rattle.explain_forest.proofs.Linking.{linked-after}
use Rattle.explain_forest.proofs.laws.an_edge_links_what_it_is_between.Goals as goal

pub returns : goal.returns
returns c = linked-after
