-- The quotient of 1 and 1 is 1.
use Rattle.std.proofs.Common.{refl, ◌∙◌}
use Rattle.spec_numbers.specs.Fractions.{inverse, times, gcd}
use Rattle.clausify.proofs.judged.one.Goals as goal

pub returns : goal.returns
unfolding inverse times gcd
returns c = c.of.ensures ∙ refl
