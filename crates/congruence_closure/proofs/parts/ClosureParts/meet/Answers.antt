-- The two have one head and linked arguments.
use Rattle.std.proofs.Common.{sym, ap, ◌∙◌, subst}
use Rattle.term_core.specs.declared.ids.TermId.{TermId}
use Rattle.congruence_relation.specs.Edges.{Meet}
use Rattle.congruence_closure.specs.Listed.{nth}
use Rattle.congruence_closure.specs.State.{PartsView}
use Rattle.congruence_closure.proofs.Turning.{they_meet}
use Rattle.congruence_closure.proofs.parts.ClosureParts.meet.Goals as goal

pub join-requires-clause-why : goal.join-requires-clause-why
join-requires-clause-why c =
    let one = c.at.ensures.term ∙ ap (λ (v : PartsView). (nth v.now.facts.listed c.args.place).term) c.self.view_is in
    let other = c.at-2.ensures.term ∙ ap (λ (v : PartsView). (nth v.now.facts.listed c.args.holder).term) c.self.view_is in
    subst (λ (t : TermId). Meet c.args.self.now.now.facts c.args.self.now.now.edges t c.at-2.result.now.term) (sym one)
    (subst (λ (t : TermId). Meet c.args.self.now.now.facts c.args.self.now.now.edges (nth c.args.self.now.now.facts.listed c.args.place).term t) (sym other)
    (they_meet c.args.self.now.now c.are_kept.ensures.kept c.args.place c.requires.there c.requires.part c.args.holder c.requires.held))
