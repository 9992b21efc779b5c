-- Either the sides are linked, or they are apart.
use Rattle.std.proofs.Common.{true≢false, sym, ◌∙◌}
use Rattle.congruence_relation.specs.Edges.{HasLinkedSidesIn}
use Rattle.congruence_closure.specs.Listed.{nth}
use Rattle.congruence_closure.specs.State.{IsApart}
use Rattle.congruence_closure.proofs.Turning.{told, apart_free, apart_sides, linked_sides}
use Rattle.congruence_closure.proofs.parts.ClosureParts.has_linked_sides.Goals as goal

pub returns-in-Some : goal.returns-in-Some
returns-in-Some c =
    let s = c.args.self.now.now in
    let kept = c.are_kept.ensures.kept in
    told c.same.result (HasLinkedSidesIn s.facts s.edges (nth s.facts.listed c.args.place).term) (IsApart s c.args.place)
    (λ yes. linked_sides s kept c.args.place c.requires.there c.in-Some.a c.in-Some.b c.in-Some.ensures c.requires.part (c.same.ensures.0 yes))
    (λ neg. apart_sides s kept c.args.place c.requires.there c.in-Some.a c.in-Some.b c.in-Some.ensures (λ linked. true≢false (sym (c.same.ensures.1 linked) ∙ neg)))

pub returns-in-None : goal.returns-in-None
returns-in-None c = apart_free c.args.self.now.now c.are_kept.ensures.kept c.args.place c.requires.there c.in-None.ensures
