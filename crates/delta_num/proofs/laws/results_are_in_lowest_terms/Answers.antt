use Rattle.delta_num.proofs.Orders.{sum_reduced, difference_reduced, product_reduced, quotient_reduced, value_reduced}
use Rattle.delta_num.proofs.laws.results_are_in_lowest_terms.Goals as goal

pub returns : goal.returns
returns c = record {
  sum = sum_reduced;
  difference = difference_reduced;
  product = product_reduced;
  quotient = quotient_reduced;
  value = value_reduced;
}
