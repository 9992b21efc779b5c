use Rattle.delta_num.proofs.Orders.{order_equal, order_reversed, order_transitive, order_sum, order_product}
use Rattle.delta_num.proofs.laws.deltas_are_ordered.Goals as goal

pub returns : goal.returns
returns c = record {
  equal = order_equal;
  reversed = order_reversed;
  transitive = order_transitive;
  sum = order_sum;
  product = order_product;
}
