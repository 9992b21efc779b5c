-- By the sign of the base, and where it is 0 by that of the tilt.
use Rattle.spec_simplex.proofs.PairOrder.{relates_below, relates_above, relates_equals}
use Rattle.spec_simplex.proofs.laws.values_compare_in_the_order_of_pairs.Goals as goal

pub returns-clause-below : goal.returns-clause-below
returns-clause-below c = relates_below

pub returns-clause-above : goal.returns-clause-above
returns-clause-above c = relates_above

pub returns-clause-equals : goal.returns-clause-equals
returns-clause-equals c = relates_equals
