-- Verdicts: literals join arguments.
use Rattle.std.proofs.Common.{refl}
use Rattle.spec_sorts.specs.Terms.{same_term, same_terms, sort_of, second_sort}
use Rattle.spec_equality.proofs.Verdicts.{taken}
use Rattle.spec_equality.proofs.examples.literals_join_arguments.Goals as goal

pub returns : goal.returns
unfolding same_term same_terms sort_of second_sort
returns c = record {
  each = taken refl;
  order = taken refl;
  same = taken refl;
  more = taken refl;
  formulas = taken refl;
  denied = taken refl;
  missing = taken refl;
  crossed = taken refl;
  other_head = taken refl;
  not_denied = taken refl;
  conclusion_first = taken refl;
  denied_last = taken refl;
  no_arguments = taken refl;
  premise = taken refl;
}
