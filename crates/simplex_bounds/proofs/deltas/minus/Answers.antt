use Rattle.spec_tableaux.specs.Deltas.{delta_subtracted, delta_minus}
use Rattle.delta_num.specs.Meant.{delta}
use Rattle.delta_num.proofs.Results.{difference_exact}
use Rattle.spec_tableaux.specs.Spaces as spaces
use Rattle.tableau.specs.Numbers.{number_of}
use Rattle.simplex_bounds.specs.Deltas.{pair_of}
use Rattle.spec_tableaux.specs.Points.{deltas}
use Rattle.simplex_bounds.proofs.Exact.{exact, minus_is}
use Rattle.simplex_bounds.proofs.deltas.minus.Goals as goal

pub returns-clause-exact : goal.returns-clause-exact
unfolding delta_minus
returns-clause-exact c =
    let a = c.args.a in
    let b = c.args.b in
    exact c.sub.result (delta_subtracted (delta a) (delta b)) (delta_minus (delta a) (delta b)) (spaces.space_difference deltas (pair_of a) (pair_of b)) c.sub.ensures (difference_exact (delta a) (delta b))
    (λ i. record { base = minus_is (number_of a.base) (number_of b.base) i; tilt = minus_is (number_of a.tilt) (number_of b.tilt) i })
