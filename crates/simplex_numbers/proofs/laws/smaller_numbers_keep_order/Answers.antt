use Rattle.simplex_numbers.proofs.Orders.{less_stays}
use Rattle.simplex_numbers.proofs.laws.smaller_numbers_keep_order.Goals as goal

pub returns : goal.returns
returns c = less_stays
