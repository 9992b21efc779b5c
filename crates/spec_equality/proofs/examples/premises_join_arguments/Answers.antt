-- Verdicts: premises join arguments.
use Rattle.std.proofs.Common.{refl}
use Rattle.spec_sorts.specs.Terms.{same_term, same_terms, sort_of, second_sort}
use Rattle.spec_equality.proofs.Verdicts.{taken}
use Rattle.spec_equality.proofs.examples.premises_join_arguments.Goals as goal

pub returns : goal.returns
unfolding same_term same_terms sort_of second_sort
returns c = record {
  each = taken refl;
  order = taken refl;
  same = taken refl;
  more = taken refl;
  connective = taken refl;
  missing = taken refl;
  two_literals = taken refl;
  denied = taken refl;
  other_head = taken refl;
  other_count = taken refl;
  turned = taken refl;
}
