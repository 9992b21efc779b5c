-- Numbers are congruent where their terms are.
use Rattle.congruence_relation.proofs.Agree.{numbers_agree}
use Rattle.congruence_relation.proofs.laws.numbers_and_terms_agree.Goals as goal

pub returns : goal.returns
returns c = λ t f apart declared whole. numbers_agree t f whole apart declared
