-- That a look into the set is exact.
use Rattle.clause_literals.proofs.LiteralLists.{contains_by}
use Rattle.clause_literals.proofs.assignment.Assignment.contains.Goals as goal

pub returns : goal.returns
returns c = rw (← c.self.view_is) (contains_by c.self.inside.literals.keys c.args.l c.contains.result c.contains.ensures)
