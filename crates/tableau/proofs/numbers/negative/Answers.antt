use Rattle.spec_tableaux.specs.Numbers.{numbers, fractions}
use Rattle.spec_tableaux.proofs.Numbers.{number_is}
use Rattle.tableau.proofs.numbers.negative.Goals as goal

pub returns : goal.returns
unfolding numbers fractions
returns c = number_is _ _ c.neg.ensures
