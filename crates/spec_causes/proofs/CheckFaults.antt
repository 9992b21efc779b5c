-- A step of a check, a row more or a value comes to the overflow of one of its operations.
use Rattle.std.proofs.Common.{ℕ, List, inl, inr}
use Rattle.spec_numbers.specs.Bounds.{Overflow}
use Rattle.spec_tableaux.specs.Spaces.{Pair}
use Rattle.spec_tableaux.specs.Rows.{Entry}
use Rattle.spec_tableaux.specs.LeastVariable.{State}
use Rattle.spec_tableaux.specs.Numbers.{Number}
use Rattle.spec_simplex.specs.Overflows.{IsOverflow}
use Rattle.spec_simplex.proofs.TableauFaults.{exchange_overflows, row_overflows}
use Rattle.spec_tableaux.specs.Points.{Ranges}
use Rattle.spec_tableaux.specs.BoundsOverflows.{OverflowsMove, sum_of_product, sum, CheckOverflows, difference, quotient, move, rows, OverflowsValue, product, OverflowsNew}
use Rattle.spec_causes.proofs.DeltaFaults.{delta_sum_overflows, delta_difference_overflows, delta_product_overflows, delta_quotient_overflows}

move_overflows : (t : State Number (Pair Number)) (x : ℕ) (d : Pair Number) (o : Overflow) → OverflowsMove t x d o → IsOverflow o
move_overflows t x d o (product b h w) = delta_product_overflows _ _ o w
move_overflows t x d o (sum_of_product b h w) = delta_sum_overflows _ _ o w
move_overflows t x d o (sum w) = delta_sum_overflows _ _ o w

pub check_overflows : (ranges : Ranges) (t : State Number (Pair Number)) (o : Overflow) → CheckOverflows ranges t o → IsOverflow o
check_overflows ranges t o (difference y h w) = delta_difference_overflows _ _ o w
check_overflows ranges t o (quotient b x s w) = delta_quotient_overflows _ _ o w
check_overflows ranges t o (move x d h w) = move_overflows t x d o w
check_overflows ranges t o (rows b x s w) = exchange_overflows t.rows b x o w

pub value_overflows : (v : ℕ → Pair Number) (gs : List (Entry Number)) (o : Overflow) → OverflowsValue v gs o → IsOverflow o
value_overflows v gs o (product before g after e w) = delta_product_overflows _ _ o w
value_overflows v gs o (sum_of_product before g after e w) = delta_sum_overflows _ _ o w

pub new_overflows : (t : State Number (Pair Number)) (gs : List (Entry Number)) (o : Overflow) → OverflowsNew t gs o → IsOverflow o
new_overflows t gs o (inl w) = row_overflows t.rows gs o w
new_overflows t gs o (inr w) = value_overflows t.point gs o w
