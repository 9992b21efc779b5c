-- The places up to here have their numbers.
use Rattle.clause_store.proofs.Chosen.{AreNumbered}
use Rattle.clause_store.proofs.keeping.number_all.Given as goal

abbrev pub invariant-clauses : goal.invariant-clauses
invariant-clauses l = AreNumbered l.kept l.at l.next l.fn.numbers.items l.numbers.items
