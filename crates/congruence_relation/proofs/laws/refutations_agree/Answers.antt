-- Held literals are refuted by numbers where they are among terms.
use Rattle.congruence_relation.proofs.Agree.{refuted_terms, refuted_numbers}
use Rattle.congruence_relation.proofs.laws.refutations_agree.Goals as goal

pub returns : goal.returns
returns c = λ t f apart declared whole. (refuted_terms t f whole apart declared, refuted_numbers t f whole apart declared)
