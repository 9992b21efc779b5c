use Rattle.std.proofs.Common.{refl}
use Rattle.spec_numbers.specs.Bounds.{multiplied}
use Rattle.spec_tableaux.specs.Numbers.{numbers, fractions}
use Rattle.tableau.proofs.Exact.{exact, told}
use Rattle.tableau.proofs.numbers.product.Goals as goal

pub returns-clause-ok : goal.returns-clause-ok
unfolding numbers fractions multiplied
returns-clause-ok c = exact c.mul.result _ _ _ _ refl c.mul.ensures

pub returns-clause-wide : goal.returns-clause-wide
returns-clause-wide c = told c.mul.result _ c.mul.ensures
