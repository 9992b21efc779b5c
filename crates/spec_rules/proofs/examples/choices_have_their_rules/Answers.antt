-- Steps by the rules of choice.
use Rattle.std.proofs.Common.{refl}
use Rattle.spec_sorts.specs.Terms.{same_term, same_terms, sort_of, second_sort}
use Rattle.spec_proofs.specs.declared.Rule.TheVariants as rules
use Rattle.spec_rules.proofs.Given.{only}
use Rattle.spec_rules.proofs.examples.choices_have_their_rules.Goals as goal

pub returns : goal.returns
unfolding same_term same_terms sort_of second_sort
returns c = record {
  ite_pos1 = only rules.ItePos1 refl refl;
  ite_pos2 = only rules.ItePos2 refl refl;
  ite_neg1 = only rules.IteNeg1 refl refl;
  ite_neg2 = only rules.IteNeg2 refl refl;
  ite1 = only rules.Ite1 refl refl;
  ite2 = only rules.Ite2 refl refl;
  not_ite1 = only rules.NotIte1 refl refl;
  not_ite2 = only rules.NotIte2 refl refl;
}
