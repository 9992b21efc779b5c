-- Those up to here are counted.
use Rattle.std.proofs.Common.{◌≡◌}
use Rattle.clause_store.specs.Keeping.{count_first}
use Rattle.clause_store.proofs.keeping.count_kept.Given as goal

abbrev pub invariant-clauses : goal.invariant-clauses
invariant-clauses l = l.next ≡ count_first l.kept l.at
