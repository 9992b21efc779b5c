-- What is left of the terms answers for all.
use Rattle.std.proofs.Common.{◌≡◌, drop, map}
use Rattle.spec_sorts.specs.Terms.{sort_of, all_same}
use Rattle.term_core.specs.Symbols.{sort_meant}
use Rattle.term_core.specs.Tables.{clause_at}
use Rattle.term_reader.proofs.comparing.all_have.Given as goal

abbrev pub invariant-terms : goal.invariant-terms
invariant-terms l = record {
  same : all_same (sort_meant l.table.sorts l.sort) (map sort_of (clause_at l.table (drop l.id-index l.ids))) ≡ all_same (sort_meant l.table.sorts l.sort) (map sort_of (clause_at l.table l.ids));
}
