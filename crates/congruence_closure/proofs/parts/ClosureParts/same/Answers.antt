-- A term past those of the edges is linked to itself alone.
use Rattle.std.proofs.Common.{◌≡◌, inl, inr, true≢false, sym, ap, ◌∙◌, subst, arith}
use Rattle.std.proofs.lemmas.Bool.Decides.{Decides-eqb}
use Rattle.term_core.specs.declared.ids.TermId.{TermId}
use Rattle.explain_forest.specs.Forest.{Linked}
use Rattle.congruence_closure.specs.State.{PartsView}
use Rattle.congruence_closure.proofs.Terms.{linked_past}
use Rattle.congruence_closure.proofs.parts.ClosureParts.same.Goals as goal

pub returns-then-a-count : goal.returns-then-a-count
returns-then-a-count c = (
  λ e. absurd (true≢false (sym e)),
  λ linked.
      let here : Linked c.self.inside.forest.now.edges c.args.a.0 c.args.b.0 = subst (λ (v : PartsView). Linked v.now.edges c.args.a.0 c.args.b.0) (sym c.self.view_is) linked in
      let apart : c.args.a ≡ c.args.b → ⊥ = λ e. true≢false (sym ((Decides-eqb c.args.a.0 c.args.b.0).1 (ap (λ (t : TermId). t.0) e)) ∙ sym c.eq.ensures ∙ c.if-eq.false) in
      let joint = c.self.invariant.kept.joint in
      absurd (elim c.then-a-count.either [
        | inl past ↦ apart (linked_past c.self.inside.classes.numbers c.self.inside.forest.now.edges c.args.a c.args.b joint (omega (arith, past)) here)
        | inr past ↦ apart (sym (linked_past c.self.inside.classes.numbers c.self.inside.forest.now.edges c.args.b c.args.a joint (omega (arith, past.1)) (sym here)))
      ]),
)
