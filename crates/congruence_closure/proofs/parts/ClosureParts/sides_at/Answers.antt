-- The sides are those of the shape.
use Rattle.std.proofs.Common.{◌≡◌, ap, ◌∙◌, subst}
use Rattle.std.specs.Prelude.{MatchOption}
use Rattle.term_core.specs.declared.ids.TermId.{TermId}
use Rattle.term_core.specs.Tables.{Shape}
use Rattle.congruence_closure.specs.Listed.{nth, equality_of}
use Rattle.congruence_closure.specs.State.{PartsView}
use Rattle.congruence_closure.proofs.parts.ClosureParts.sides_at.Goals as goal

pub returns : goal.returns
returns c =
    let is = c.at.ensures.node ∙ ap (λ (v : PartsView). (nth v.now.facts.listed c.args.place).shape) c.self.view_is in
    subst (λ (x : Shape). MatchOption c.sides_of.result ((a b : TermId) → x ≡ equality_of a b → ⊥) (λ sides. x ≡ equality_of sides.0 sides.1)) is c.sides_of.ensures
