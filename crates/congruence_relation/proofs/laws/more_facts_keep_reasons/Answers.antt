-- More facts keep what is congruent, and reasons.
use Rattle.congruence_relation.proofs.More.{congruent_more, reasons_more}
use Rattle.congruence_relation.proofs.laws.more_facts_keep_reasons.Goals as goal

pub returns : goal.returns
returns c = record {
  congruent = λ f g grows. congruent_more f g grows;
  reasons = λ f g es grows. reasons_more f g grows es;
}
