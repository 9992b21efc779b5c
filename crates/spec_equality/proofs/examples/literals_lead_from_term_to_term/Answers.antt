-- Verdicts: literals lead from term to term.
use Rattle.std.proofs.Common.{refl}
use Rattle.spec_sorts.specs.Terms.{same_term, same_terms, sort_of, second_sort}
use Rattle.spec_equality.proofs.Verdicts.{taken}
use Rattle.spec_equality.proofs.examples.literals_lead_from_term_to_term.Goals as goal

pub returns : goal.returns
unfolding same_term same_terms sort_of second_sort
returns c = record {
  chain = taken refl;
  turned = taken refl;
  one = taken refl;
  order = taken refl;
  conclusion_turned = taken refl;
  gap = taken refl;
  too_far = taken refl;
  not_denied = taken refl;
  conclusion_first = taken refl;
  more = taken refl;
  premise = taken refl;
}
