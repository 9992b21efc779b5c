use Rattle.std.proofs.Common.{◌∙◌, refl}
use Rattle.spec_numbers.specs.Fractions.{times, inverse, gcd}
use Rattle.spec_tableaux.specs.Numbers.{numbers, fractions}
use Rattle.spec_tableaux.proofs.Numbers.{number_is}
use Rattle.tableau.proofs.numbers.one.Goals as goal

pub returns : goal.returns
unfolding numbers fractions times inverse gcd
returns c = number_is _ _ (c.of.ensures ∙ refl)
