use Rattle.spec_numbers.proofs.Field.{plus-reduced, times-reduced, opposite-reduced, inverse-reduced}
use Rattle.spec_numbers.proofs.laws.results_are_in_lowest_terms.Goals as goal

pub returns : goal.returns
returns c = record {
  sum = λ x y r q. plus-reduced x y r.positive q.positive;
  difference = λ x y r q. plus-reduced x _ r.positive (opposite-reduced y q).positive;
  product = λ x y r q. times-reduced x y r.positive q.positive;
  quotient = λ x y r q. times-reduced x _ r.positive (inverse-reduced y q).positive;
  opposite = opposite-reduced;
  inverse = inverse-reduced;
}
