use Rattle.std.proofs.Common.{refl}
use Rattle.spec_numbers.specs.Bounds.{subtracted}
use Rattle.spec_tableaux.specs.Numbers.{numbers, fractions}
use Rattle.tableau.proofs.Exact.{exact, told}
use Rattle.tableau.proofs.numbers.difference.Goals as goal

pub returns-clause-ok : goal.returns-clause-ok
unfolding numbers fractions subtracted
returns-clause-ok c = exact c.sub.result _ _ _ _ refl c.sub.ensures

pub returns-clause-wide : goal.returns-clause-wide
returns-clause-wide c = told c.sub.result _ c.sub.ensures
