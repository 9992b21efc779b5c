use Rattle.std.proofs.Common.{ap, pos}
use Rattle.std.specs.Ordering.{int_eq}
use Rattle.spec_numbers.specs.Fractions.{Fraction, inverse}
use Rattle.spec_numbers.proofs.Field.{times-comm}
use Rattle.ratio128.specs.Meant.{fraction}
use Rattle.spec_tableaux.specs.Deltas.{delta_divided, delta_over}
use Rattle.delta_num.specs.Meant.{delta}
use Rattle.delta_num.proofs.Results.{quotient_exact}
use Rattle.spec_tableaux.specs.Numbers.{numbers, fractions}
use Rattle.tableau.specs.Numbers.{number_of}
use Rattle.simplex_bounds.specs.Deltas.{pair_of}
use Rattle.spec_tableaux.specs.Points.{deltas}
use Rattle.simplex_bounds.proofs.Exact.{exact}
use Rattle.simplex_bounds.proofs.deltas.divided.Goals as goal

pub divide-requires : goal.divide-requires
unfolding numbers fractions
divide-requires c = λ e. let k = ap (λ (x : Fraction). int_eq x.num (pos 0)) e in let w = c.requires in cc

pub returns-clause-exact : goal.returns-clause-exact
unfolding numbers fractions delta_over
returns-clause-exact c =
    let k = fraction c.args.by in
    let x = delta c.args.a in
    exact c.divide.result (delta_divided x k) (delta_over x k) (deltas.scale (numbers.inverse (number_of c.args.by)) (pair_of c.args.a)) c.divide.ensures (quotient_exact x k)
    (λ i. record { base = times-comm x.base (inverse k) i; tilt = times-comm x.tilt (inverse k) i })
