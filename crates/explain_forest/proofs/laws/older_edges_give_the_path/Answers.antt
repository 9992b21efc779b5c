use Rattle.explain_forest.proofs.Paths.{path-none}
use Rattle.explain_forest.proofs.Linking.{older-linked}
use Rattle.explain_forest.proofs.laws.older_edges_give_the_path.Goals as goal

pub returns-clause-linked : goal.returns-clause-linked
returns-clause-linked c = λ es k x y h. (older-linked es k x y h).0

pub returns-clause-path : goal.returns-clause-path
returns-clause-path c = λ es k x y h. (older-linked es k x y h).1

pub returns-clause-none : goal.returns-clause-none
returns-clause-none c = path-none
