use Rattle.std.proofs.Common.{refl}
use Rattle.spec_numbers.specs.Bounds.{added}
use Rattle.spec_tableaux.specs.Numbers.{numbers, fractions}
use Rattle.tableau.proofs.Exact.{exact, told}
use Rattle.tableau.proofs.numbers.sum.Goals as goal

pub returns-clause-ok : goal.returns-clause-ok
unfolding numbers fractions added
returns-clause-ok c = exact c.add.result _ _ _ _ refl c.add.ensures

pub returns-clause-wide : goal.returns-clause-wide
returns-clause-wide c = told c.add.result _ c.add.ensures
