-- An exchange or a row more comes to the overflow of one of its operations.
use Rattle.std.proofs.Common.{ℕ, List}
use Rattle.spec_numbers.specs.Bounds.{Overflow}
use Rattle.spec_tableaux.specs.Rows.{Entry, Row}
use Rattle.spec_tableaux.specs.Numbers.{Number}
use Rattle.spec_tableaux.specs.CheckOverflows.{OverflowsExchange, factor, quotient, leaving_product, product, difference, OverflowsSum, product_of_row, sum_of_row, sum_of_two}
use Rattle.spec_simplex.specs.Overflows.{IsOverflow}
use Rattle.spec_simplex.proofs.Operations.{sum_overflows, difference_overflows, product_overflows, quotient_overflows}

pub exchange_overflows : (rs : List (Row Number)) (b x : ℕ) (o : Overflow) → OverflowsExchange rs b x o → IsOverflow o
exchange_overflows rs b x o (factor w) = quotient_overflows _ _ o w
exchange_overflows rs b x o (quotient e h w) = quotient_overflows _ _ o w
exchange_overflows rs b x o (leaving_product r h w) = product_overflows _ _ o w
exchange_overflows rs b x o (product r h g k w) = product_overflows _ _ o w
exchange_overflows rs b x o (difference r h g k e m s w) = difference_overflows _ _ o w

pub row_overflows : (rs : List (Row Number)) (gs : List (Entry Number)) (o : Overflow) → OverflowsSum rs gs o → IsOverflow o
row_overflows rs gs o (product_of_row before g after e b c h w) = product_overflows _ _ o w
row_overflows rs gs o (sum_of_row before g after e b c h d k s w) = sum_overflows _ _ o w
row_overflows rs gs o (sum_of_two before g after e b d k s w) = sum_overflows _ _ o w
