-- Edges have reasons, and where it is saturated they are closed.
use Rattle.std.proofs.Common.{ap, ◌∙◌, sym, subst}
use Rattle.congruence_relation.specs.Relation.{IsCongruentIn}
use Rattle.congruence_relation.proofs.Exact.{linked_congruent, congruent_linked}
use Rattle.congruence_closure.specs.Closure.{ClosureView}
use Rattle.congruence_closure.proofs.SaturatedClosure.{saturated_closed}
use Rattle.congruence_closure.proofs.closure.Closure.same.Goals as goal

pub returns-clause-sound : goal.returns-clause-sound
returns-clause-sound c = λ e. subst (λ (v : ClosureView). IsCongruentIn v.now.facts c.args.a c.args.b) c.self.view_is
    (linked_congruent c.self.inside.parts.now.facts c.self.inside.parts.now.edges c.are_kept.ensures.kept.reasons c.args.a c.args.b (c.same.ensures.0 e))

pub returns-clause-exact : goal.returns-clause-exact
returns-clause-exact c = λ saturated. (
  λ e. subst (λ (v : ClosureView). IsCongruentIn v.now.facts c.args.a c.args.b) c.self.view_is
      (linked_congruent c.self.inside.parts.now.facts c.self.inside.parts.now.edges c.are_kept.ensures.kept.reasons c.args.a c.args.b (c.same.ensures.0 e)),
  λ h.
      let done = c.self.invariant.done (ap (λ (v : ClosureView). v.now.saturated) c.self.view_is ∙ saturated) in
      let closed = saturated_closed c.self.inside.parts.now c.are_kept.ensures.kept done in
      let here = subst (λ (v : ClosureView). IsCongruentIn v.now.facts c.args.a c.args.b) (sym c.self.view_is) h in
      c.same.ensures.1 (congruent_linked c.self.inside.parts.now.facts c.self.inside.parts.now.edges closed c.args.a c.args.b here),
)
