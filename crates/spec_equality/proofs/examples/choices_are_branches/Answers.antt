-- Verdicts: choices are branches.
use Rattle.std.proofs.Common.{refl}
use Rattle.spec_sorts.specs.Terms.{same_term, same_terms, sort_of, second_sort}
use Rattle.spec_equality.proofs.Verdicts.{taken}
use Rattle.spec_equality.proofs.examples.choices_are_branches.Goals as goal

pub returns : goal.returns
unfolding same_term same_terms sort_of second_sort
returns c = record {
  first = taken refl;
  second = taken refl;
  first_by_second = taken refl;
  second_by_first = taken refl;
  turned = taken refl;
  order = taken refl;
  formula = taken refl;
  other_condition = taken refl;
  alone = taken refl;
}
