use Rattle.delta_num.proofs.Results.{sum_exact, difference_exact, product_exact, quotient_exact, value_exact}
use Rattle.delta_num.proofs.laws.bounded_results_are_exact.Goals as goal

pub returns : goal.returns
returns c = record {
  sum = sum_exact;
  difference = difference_exact;
  product = product_exact;
  quotient = quotient_exact;
  value = value_exact;
}
