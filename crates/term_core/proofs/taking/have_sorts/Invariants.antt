-- What is left of both lists answers for the whole.
use Rattle.std.proofs.Common.{◌≡◌, length, drop, map}
use Rattle.spec_sorts.specs.Terms.{sort_of, same_sorts}
use Rattle.term_core.specs.Symbols.{sorts_meant}
use Rattle.term_core.specs.Tables.{clause_at}
use Rattle.term_core.proofs.taking.have_sorts.Given as goal

abbrev pub invariant-terms : goal.invariant-terms
invariant-terms l = record {
  long : length l.sorts ≡ length l.ids;
  same : same_sorts (sorts_meant l.table.sorts (drop l.at l.sorts)) (map sort_of (clause_at l.table (drop l.at l.ids)))
      ≡ same_sorts (sorts_meant l.table.sorts l.sorts) (map sort_of (clause_at l.table l.ids));
}
