use Rattle.std.proofs.Common.{refl}
use Rattle.spec_tableaux.specs.Deltas.{delta_added, delta_plus}
use Rattle.delta_num.specs.Meant.{delta}
use Rattle.delta_num.proofs.Results.{sum_exact}
use Rattle.spec_tableaux.specs.Numbers.{numbers, fractions}
use Rattle.simplex_bounds.specs.Deltas.{pair_of}
use Rattle.spec_tableaux.specs.Points.{deltas}
use Rattle.simplex_bounds.proofs.Exact.{exact}
use Rattle.simplex_bounds.proofs.deltas.plus.Goals as goal

pub returns-clause-exact : goal.returns-clause-exact
unfolding numbers fractions delta_plus
returns-clause-exact c =
    let x = delta c.args.a in
    let y = delta c.args.b in
    exact c.add.result (delta_added x y) (delta_plus x y) (deltas.plus (pair_of c.args.a) (pair_of c.args.b)) c.add.ensures (sum_exact x y) refl
