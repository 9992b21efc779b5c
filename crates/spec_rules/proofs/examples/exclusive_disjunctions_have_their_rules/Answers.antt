-- Steps by the rules of exclusive disjunction.
use Rattle.std.proofs.Common.{refl}
use Rattle.spec_sorts.specs.Terms.{same_term, same_terms, sort_of, second_sort}
use Rattle.spec_proofs.specs.declared.Rule.TheVariants as rules
use Rattle.spec_rules.proofs.Given.{only}
use Rattle.spec_rules.proofs.examples.exclusive_disjunctions_have_their_rules.Goals as goal

pub returns : goal.returns
unfolding same_term same_terms sort_of second_sort
returns c = record {
  xor_pos1 = only rules.XorPos1 refl refl;
  xor_pos2 = only rules.XorPos2 refl refl;
  xor_neg1 = only rules.XorNeg1 refl refl;
  xor_neg2 = only rules.XorNeg2 refl refl;
  xor1 = only rules.Xor1 refl refl;
  xor2 = only rules.Xor2 refl refl;
  not_xor1 = only rules.NotXor1 refl refl;
  not_xor2 = only rules.NotXor2 refl refl;
}
