-- Verdicts: terms are equal to themselves.
use Rattle.std.proofs.Common.{refl}
use Rattle.spec_sorts.specs.Terms.{same_term, same_terms, sort_of, second_sort}
use Rattle.spec_equality.proofs.Verdicts.{taken}
use Rattle.spec_equality.proofs.examples.terms_are_equal_to_themselves.Goals as goal

pub returns : goal.returns
unfolding same_term same_terms sort_of second_sort
returns c = record {
  constants = taken refl;
  distinct = taken refl;
  other = taken refl;
  denied = taken refl;
  more = taken refl;
  none = taken refl;
  premise = taken refl;
}
