use Rattle.std.proofs.Common.{refl, ap, pos}
use Rattle.std.specs.Ordering.{int_eq}
use Rattle.spec_numbers.specs.Fractions.{Fraction}
use Rattle.spec_numbers.specs.Bounds.{divided}
use Rattle.spec_tableaux.specs.Numbers.{numbers, fractions}
use Rattle.tableau.proofs.Exact.{exact, told}
use Rattle.tableau.proofs.numbers.quotient.Goals as goal

pub div-requires : goal.div-requires
unfolding numbers fractions
div-requires c = λ h. let k = ap (λ (z : Fraction). int_eq z.num (pos 0)) h in let w = c.requires in cc

pub returns-clause-ok : goal.returns-clause-ok
unfolding numbers fractions divided
returns-clause-ok c = exact c.div.result _ _ _ _ refl c.div.ensures

pub returns-clause-wide : goal.returns-clause-wide
returns-clause-wide c = told c.div.result _ c.div.ensures
