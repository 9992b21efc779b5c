use Rattle.std.proofs.Common.{refl}
use Rattle.ratio128.specs.Meant.{fraction}
use Rattle.spec_tableaux.specs.Deltas.{delta_scaled, delta_times}
use Rattle.delta_num.specs.Meant.{delta}
use Rattle.delta_num.proofs.Results.{product_exact}
use Rattle.spec_tableaux.specs.Numbers.{numbers, fractions}
use Rattle.tableau.specs.Numbers.{number_of}
use Rattle.simplex_bounds.specs.Deltas.{pair_of}
use Rattle.spec_tableaux.specs.Points.{deltas}
use Rattle.simplex_bounds.proofs.Exact.{exact}
use Rattle.simplex_bounds.proofs.deltas.scaled.Goals as goal

pub returns-clause-exact : goal.returns-clause-exact
unfolding numbers fractions delta_times
returns-clause-exact c =
    let k = fraction c.args.k in
    let x = delta c.args.a in
    exact c.scale.result (delta_scaled k x) (delta_times k x) (deltas.scale (number_of c.args.k) (pair_of c.args.a)) c.scale.ensures (product_exact k x) refl
