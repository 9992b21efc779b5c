-- What is so of the parts.
use Rattle.std.proofs.Common.{subst}
use Rattle.congruence_closure.specs.Closure.{IsRight}
use Rattle.congruence_closure.proofs.SaturatedClosure.{saturated_closed, saturated_fine}
use Rattle.congruence_closure.proofs.closure.Closure.is_right.Goals as goal

pub returns : goal.returns
returns c = subst IsRight c.self.view_is (record {
  reasons = c.are_kept.ensures.kept.reasons;
  closed = λ e. saturated_closed c.self.inside.parts.now c.are_kept.ensures.kept (c.self.invariant.done e);
  fine = λ e. saturated_fine c.self.inside.parts.now c.are_kept.ensures.kept (c.self.invariant.done e);
  order = c.are_kept.ensures.kept.order;
})
