-- The equalities of the pairs up to here came.
use Rattle.std.proofs.Common.{[], take, map}
use Rattle.term_clauses.specs.SpokenTerms.{HasMore}
use Rattle.term_clauses.specs.Stating.{Widens}
use Rattle.solve_core.specs.Unspoken.{equality_in}
use Rattle.solve_core.proofs.equalities.equalities_of.Given as goal

abbrev pub invariant-pairs : goal.invariant-pairs
invariant-pairs l = record {
  wider : Widens l.fn.table l.table;
  more : HasMore l.fn.table l.table [] l.ids.items (map (equality_in l.fn.table) (take l.pair-index l.pairs));
}
