-- That the set has one more literal.
use Rattle.std.proofs.Common.{rules}
use Rattle.clause_literals.proofs.LiteralLists.{adds_by}
use Rattle.clause_literals.proofs.assignment.Assignment.add.Goals as goal
use Rattle.clause_literals.proofs.assignment.Assignment.add.Goals.{in-Ok, in-Err}

pub returns : goal.returns
returns c = elim c.match-insert.branch [
  | in-Ok w ↦ let h = adds_by c.self.inside.literals.keys c.insert.new.self.keys c.args.l w.in-Ok.ensures.keys in rw (w.result-is, ← c.self.view_is) h
  | in-Err w ↦ search rules
]
