-- Steps over comparisons and equalities of numbers.
use Rattle.std.proofs.Common.{refl}
use Rattle.spec_sorts.specs.Terms.{same_term, same_terms, sort_of, second_sort}
use Rattle.spec_proofs.specs.declared.Rule.TheVariants as rules
use Rattle.spec_rules.proofs.Given.{only}
use Rattle.spec_rules.proofs.examples.formulas_over_numbers_have_their_rules.Goals as goal

pub returns : goal.returns
unfolding same_term same_terms sort_of second_sort
returns c = record {
  and_pos = only rules.AndPos refl refl;
  equiv_pos2 = only rules.EquivPos2 refl refl;
  ite1 = only rules.Ite1 refl refl;
  not_or = only rules.NotOr refl refl;
}
