use Rattle.std.proofs.Common.{◌≡◌, length}
use Rattle.std.specs.Prelude.{not}
use Rattle.spec_sorts.specs.Theory.{each_passes, is_zero_divisor}
use Rattle.term_core.specs.Tables.{AreIn, clause_at}
use Rattle.term_reader.proofs.heads.are_not_zero.Given as goal

abbrev pub invariant-ids : goal.invariant-ids
invariant-ids l = record {
  there : AreIn l.table l.rest;
  same : each_passes (λ d. not (is_zero_divisor d)) (clause_at l.table l.rest) ≡ each_passes (λ d. not (is_zero_divisor d)) (clause_at l.table l.ids);
}

abbrev pub decreases-ids : goal.decreases-ids
decreases-ids l = length l.rest
