-- The terms of the order up to here are filled.
use Rattle.std.proofs.Common.{◌≡◌, length}
use Rattle.term_core.specs.Tables.{clause_at, declared_in, Extends}
use Rattle.term_walks.specs.FilledTerms.{AreFilled}
use Rattle.term_walks.proofs.substitution.fill_along.Given as goal

abbrev pub invariant-terms : goal.invariant-terms
invariant-terms l = record {
  long : length l.made.items ≡ l.at;
  kept : Extends l.fn.table l.table;
  declared : declared_in l.table ≡ declared_in l.fn.table;
  so_far : AreFilled l.table (clause_at l.fn.table l.arguments) l.order l.made.items;
}
