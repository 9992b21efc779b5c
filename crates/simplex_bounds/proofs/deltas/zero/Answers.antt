use Rattle.std.proofs.Common.{◌∙◌}
use Rattle.spec_numbers.specs.Fractions.{gcd, times, inverse}
use Rattle.spec_tableaux.specs.Deltas.{number}
use Rattle.spec_tableaux.specs.Numbers.{numbers, fractions}
use Rattle.spec_tableaux.specs.Points.{deltas}
use Rattle.simplex_bounds.proofs.Exact.{pair_is}
use Rattle.simplex_bounds.proofs.deltas.zero.Goals as goal

pub returns : goal.returns
unfolding numbers fractions gcd times inverse
returns c = pair_is c.number.result deltas.origin (c.number.ensures ∙ (λ i. number (c.of.ensures i)))
