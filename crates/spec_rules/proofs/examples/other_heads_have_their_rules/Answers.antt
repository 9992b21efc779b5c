-- Steps by the rules of the other heads.
use Rattle.std.proofs.Common.{refl}
use Rattle.spec_sorts.specs.Terms.{same_term, same_terms, sort_of, second_sort}
use Rattle.spec_proofs.specs.declared.Rule.TheVariants as rules
use Rattle.spec_rules.proofs.Given.{only}
use Rattle.spec_rules.proofs.examples.other_heads_have_their_rules.Goals as goal

pub returns : goal.returns
unfolding same_term same_terms sort_of second_sort
returns c = record {
  true_rule = only rules.True refl refl;
  false_rule = only rules.False refl refl;
  implies_pos = only rules.ImpliesPos refl refl;
  implies_neg1 = only rules.ImpliesNeg1 refl refl;
  implies_neg2 = only rules.ImpliesNeg2 refl refl;
  implies = only rules.Implies refl refl;
  not_implies1 = only rules.NotImplies1 refl refl;
  not_implies2 = only rules.NotImplies2 refl refl;
  and_pos = only rules.AndPos refl refl;
  and_neg = only rules.AndNeg refl refl;
  or_pos = only rules.OrPos refl refl;
  or_neg = only rules.OrNeg refl refl;
  and = only rules.And refl refl;
  not_and = only rules.NotAnd refl refl;
  not_or = only rules.NotOr refl refl;
  not_not = only rules.NotNot refl refl;
  two_nots = only rules.And refl refl;
}
