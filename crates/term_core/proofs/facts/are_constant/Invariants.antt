-- What is left of the terms answers for all.
use Rattle.std.proofs.Common.{◌≡◌, drop}
use Rattle.spec_sorts.specs.Theory.{is_constant, each_passes}
use Rattle.term_core.specs.Tables.{clause_at}
use Rattle.term_core.proofs.facts.are_constant.Given as goal

abbrev pub invariant-terms : goal.invariant-terms
invariant-terms l = record { same : each_passes is_constant (clause_at l.table (drop l.id-index l.ids)) ≡ each_passes is_constant (clause_at l.table l.ids) }
