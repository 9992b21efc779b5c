-- Which terms take part, by computing.
use Rattle.std.proofs.Common.{refl}
use Rattle.spec_sorts.specs.Terms.{sort_of, second_sort}
use Rattle.spec_equality.proofs.congruence_examples.connectives_take_no_part.Goals as goal

pub returns : goal.returns
unfolding sort_of second_sort
returns c = record {
  application = refl;
  negation = refl;
  equality = refl;
  conjunction = refl;
  truths = refl;
  choice = refl;
  choice_of_truths = refl;
}
