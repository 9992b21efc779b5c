-- Clauses that no rule gives.
use Rattle.std.proofs.Common.{refl}
use Rattle.spec_sorts.specs.Terms.{same_term, same_terms, sort_of, second_sort}
use Rattle.spec_rules.proofs.Given.{by_none}
use Rattle.spec_rules.proofs.examples.near_clauses_have_no_rule.Goals as goal

pub returns : goal.returns
unfolding same_term same_terms sort_of second_sort
returns c = record {
  other_term = by_none _ _ refl;
  other_sign = by_none _ _ refl;
  left_out = by_none _ _ refl;
  added = by_none _ _ refl;
  order = by_none _ _ refl;
  order_of_two = by_none _ _ refl;
  no_front = by_none _ _ refl;
  no_truth = by_none _ _ refl;
  sorts = by_none _ _ refl;
  sorts_of_numbers = by_none _ _ refl;
  sorts_of_arguments = by_none _ _ refl;
  mixed_sorts = by_none _ _ refl;
  sum = by_none _ _ refl;
  sorts_of_choice = by_none _ _ refl;
  count = by_none _ _ refl;
  two_nots = by_none _ _ refl;
}
