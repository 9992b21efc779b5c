use Rattle.delta_num.proofs.Values.{number_value, sum_value, product_value}
use Rattle.delta_num.proofs.laws.values_follow_the_operations.Goals as goal

pub returns : goal.returns
returns c = record { number = number_value; sum = sum_value; product = product_value }
