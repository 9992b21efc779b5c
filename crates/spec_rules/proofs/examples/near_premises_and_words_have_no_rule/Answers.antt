-- Premises that no rule takes, and words that name none.
use Rattle.std.proofs.Common.{refl}
use Rattle.spec_sorts.specs.Terms.{same_term, same_terms, sort_of, second_sort}
use Rattle.spec_rules.proofs.Given.{by_none}
use Rattle.spec_rules.proofs.examples.near_premises_and_words_have_no_rule.Goals as goal

pub returns : goal.returns
unfolding same_term same_terms sort_of second_sort
returns c = record {
  not_wanted = by_none _ _ refl;
  missing = by_none _ _ refl;
  twice = by_none _ _ refl;
  two_literals = by_none _ _ refl;
  empty = by_none _ _ refl;
  other_sign = by_none _ _ refl;
  kept = by_none _ _ refl;
  hole = refl;
  capital = refl;
}
