-- Steps by the rules of equality.
use Rattle.std.proofs.Common.{refl}
use Rattle.spec_sorts.specs.Terms.{same_term, same_terms, sort_of, second_sort}
use Rattle.spec_proofs.specs.declared.Rule.TheVariants as rules
use Rattle.spec_rules.proofs.Given.{only}
use Rattle.spec_rules.proofs.examples.equalities_have_their_rules.Goals as goal

pub returns : goal.returns
unfolding same_term same_terms sort_of second_sort
returns c = record {
  equiv_pos1 = only rules.EquivPos1 refl refl;
  equiv_pos2 = only rules.EquivPos2 refl refl;
  equiv_neg1 = only rules.EquivNeg1 refl refl;
  equiv_neg2 = only rules.EquivNeg2 refl refl;
  equiv1 = only rules.Equiv1 refl refl;
  equiv2 = only rules.Equiv2 refl refl;
  not_equiv1 = only rules.NotEquiv1 refl refl;
  not_equiv2 = only rules.NotEquiv2 refl refl;
}
