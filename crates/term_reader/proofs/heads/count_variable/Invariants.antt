use Rattle.std.proofs.Common.{◌≡◌, ◌+◌, ◌≤◌, length}
use Rattle.std.specs.Prelude.{not}
use Rattle.spec_sorts.specs.Theory.{count_of, is_constant}
use Rattle.term_core.specs.Tables.{AreIn, clause_at}
use Rattle.term_reader.proofs.heads.count_variable.Given as goal

abbrev pub invariant-ids : goal.invariant-ids
invariant-ids l = record {
  there : AreIn l.table l.rest;
  few : l.count + length l.rest ≤ length l.ids;
  same : l.count + count_of (λ t. not (is_constant t)) (clause_at l.table l.rest) ≡ count_of (λ t. not (is_constant t)) (clause_at l.table l.ids);
}

abbrev pub decreases-ids : goal.decreases-ids
decreases-ids l = length l.rest
