-- The arguments up to here are filled.
use Rattle.std.proofs.Common.{◌≡◌, List, take, map}
use Rattle.spec_sorts.specs.Terms.{Term, filled}
use Rattle.term_core.specs.Tables.{TableView, AreIn, clause_at}
use Rattle.term_walks.specs.FilledTerms.{AreFilled}
use Rattle.term_walks.proofs.substitution.filled_all.Given as goal

abbrev pub invariant-arguments : goal.invariant-arguments
invariant-arguments l = record {
  so_far : (t : TableView) (ts : List Term) → AreFilled t ts l.order l.made → AreIn t l.all.items × (clause_at t l.all.items ≡ map (filled ts) (clause_at t (take l.id-index l.arguments)));
}
