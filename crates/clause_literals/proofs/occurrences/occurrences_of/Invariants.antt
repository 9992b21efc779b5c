-- The clauses up to here are in the lists.
use Rattle.clause_literals.specs.Literals.{lists}
use Rattle.clause_literals.proofs.Noting.{HasIndexed}
use Rattle.clause_literals.proofs.occurrences.occurrences_of.Given as goal

abbrev pub invariant-loop-number : goal.invariant-loop-number
invariant-loop-number l = HasIndexed l.occurrences (lists l.clauses) l.number
