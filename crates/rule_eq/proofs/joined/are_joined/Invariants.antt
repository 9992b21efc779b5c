-- What is left of the terms is joined exactly where all are.
use Rattle.std.proofs.Common.{◌≤◌, length, drop}
use Rattle.spec_equality.specs.Reasons.{AreJoined}
use Rattle.term_core.specs.Tables.{clause_at}
use Rattle.rule_eq.specs.Reasoning.{reasons_meant}
use Rattle.rule_eq.proofs.joined.are_joined.Given as goal

abbrev pub invariant-loop-at : goal.invariant-loop-at
invariant-loop-at l = record {
  there : l.last ≤ length (reasons_meant l.table l.reasons);
  joined : AreJoined (reasons_meant l.table l.reasons) (clause_at l.table (drop l.at l.terms)) (clause_at l.table (drop l.at l.others)) → AreJoined (reasons_meant l.table l.reasons) (clause_at l.table l.terms) (clause_at l.table l.others);
  left : AreJoined (reasons_meant l.table l.reasons) (clause_at l.table l.terms) (clause_at l.table l.others) → AreJoined (reasons_meant l.table l.reasons) (clause_at l.table (drop l.at l.terms)) (clause_at l.table (drop l.at l.others));
}
