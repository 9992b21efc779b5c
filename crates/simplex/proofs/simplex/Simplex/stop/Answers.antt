-- The strongest bound is held.
use Rattle.std.proofs.Common.{Contains, subst}
use Rattle.std.specs.Prelude.{IfSome}
use Rattle.simplex_bounds.specs.declared.bounds.Bound.{Bound}
use Rattle.simplex_bounds.specs.declared.bounds.Side.TheVariants.{Lower, Upper}
use Rattle.simplex.specs.Views.{SimplexView}
use Rattle.simplex.proofs.Hinting.{stop_held}
use Rattle.simplex.proofs.simplex.Simplex.stop.Goals as goal

pub returns-then-is_negative-up : goal.returns-then-is_negative-up
returns-then-is_negative-up c = subst (λ (v : SimplexView). IfSome c.lower.result (λ (b : Bound). Contains v.bounds.held b)) c.self.view_is
    (stop_held Lower c.args.member.variable c.self.inside.bounds.held c.lower.result c.lower.ensures)

pub returns-else-is_negative-up : goal.returns-else-is_negative-up
returns-else-is_negative-up c = subst (λ (v : SimplexView). IfSome c.upper.result (λ (b : Bound). Contains v.bounds.held b)) c.self.view_is
    (stop_held Upper c.args.member.variable c.self.inside.bounds.held c.upper.result c.upper.ensures)
