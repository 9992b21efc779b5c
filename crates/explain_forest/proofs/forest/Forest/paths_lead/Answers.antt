use Rattle.explain_forest.proofs.Leading.{path-leads, path-along}
use Rattle.explain_forest.proofs.forest.Forest.paths_lead.Goals as goal

pub returns-clause-leads : goal.returns-clause-leads
returns-clause-leads c = λ x y h. path-leads c.args.self.now.now.edges x y h

pub returns-clause-along : goal.returns-clause-along
returns-clause-along c = λ x y. path-along c.args.self.now.now.edges x y
