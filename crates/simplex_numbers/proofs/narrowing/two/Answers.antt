-- 2 over 1 is 1 and 1.
use Rattle.simplex_numbers.proofs.Numbers.{two_is}
use Rattle.simplex_numbers.proofs.narrowing.two.Goals as goal

pub returns : goal.returns
returns c = two_is c.of.result c.of.ensures
