use Rattle.std.proofs.Common.{rules, arith}
use Rattle.std.proofs.lemmas.Int.{ints}
use Rattle.std.proofs.lemmas.Bool.Decides.{nat_tests}
use Rattle.spec_tableaux.specs.Numbers.{numbers, fractions}
use Rattle.tableau.proofs.numbers.is_negative.Goals as goal

pub returns : goal.returns
unfolding numbers fractions
returns c = let k = c.num.ensures in let w = c.num.type_inv in first_of (search (rules, ints), grind (arith, ints, nat_tests))
