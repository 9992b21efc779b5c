-- What is left of the reasons leads on from the term that is reached exactly where all lead from the first.
use Rattle.std.proofs.Common.{drop}
use Rattle.spec_equality.specs.Reasons.{Lead}
use Rattle.term_core.specs.Tables.{IsIn, term_at}
use Rattle.rule_eq.specs.Reasoning.{reasons_meant}
use Rattle.rule_eq.proofs.reasons.lead.Given as goal

abbrev pub invariant-loop-place : goal.invariant-loop-place
invariant-loop-place l = record {
  there : IsIn l.table l.current;
  led : Lead (drop l.place (reasons_meant l.table l.reasons)) (term_at l.table l.current) (term_at l.table l.to) → Lead (reasons_meant l.table l.reasons) (term_at l.table l.fn.from) (term_at l.table l.to);
  left : Lead (reasons_meant l.table l.reasons) (term_at l.table l.fn.from) (term_at l.table l.to) → Lead (drop l.place (reasons_meant l.table l.reasons)) (term_at l.table l.current) (term_at l.table l.to);
}
