-- The numbers that are there, before those of what is left.
use Rattle.std.proofs.Common.{◌≡◌, drop}
use Rattle.spec_arithmetic.specs.Contradictions.{numbered}
use Rattle.term_core.specs.Tables.{TableView}
use Rattle.linear_form.specs.Making.{with_front}
use Rattle.linear_form.specs.Clauses.{pairs_meant, HavePairsIn, numbered_meant, HaveNumbersIn}
use Rattle.linear_form.proofs.clauses.numbers_of.Given as goal

abbrev pub invariant-loop-pair : goal.invariant-loop-pair
invariant-loop-pair l = record {
  comes : (t : TableView) → numbered (pairs_meant t l.pairs) ≡ with_front (numbered_meant t l.numbers.items) (numbered (pairs_meant t (drop l.pair-index l.pairs)));
  there : (t : TableView) → HavePairsIn t l.pairs → HaveNumbersIn t l.numbers.items;
}
