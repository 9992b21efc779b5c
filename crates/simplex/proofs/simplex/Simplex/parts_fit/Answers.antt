-- The parts fit together.
use Rattle.std.proofs.Common.{subst}
use Rattle.simplex.specs.Views.{SimplexView, SimplexFits}
use Rattle.simplex.proofs.simplex.Simplex.parts_fit.Goals as goal

pub returns : goal.returns
returns c = subst (λ (v : SimplexView). SimplexFits v) c.self.view_is c.self.invariant.0
