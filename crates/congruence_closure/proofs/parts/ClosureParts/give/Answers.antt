-- The term is in the class of its truth value, or it is joined to it.
use Rattle.std.proofs.Common.{◌<◌, length, true≢false, inl, refl, sym, ap, ◌∙◌, subst}
use Rattle.term_core.specs.declared.ids.TermId.{TermId}
use Rattle.explain_forest.specs.Forest.{Linked}
use Rattle.congruence_relation.specs.Relation.{truth_of, decides, StatesEqual}
use Rattle.congruence_closure.specs.Listed.{HasPlace, IsListed}
use Rattle.congruence_closure.specs.State.{PartsView}
use Rattle.congruence_closure.proofs.Terms.{listed_low, held_listed, truth_low}
use Rattle.congruence_closure.proofs.Turning.{given_plain}
use Rattle.congruence_closure.proofs.parts.ClosureParts.give.Goals as goal

pub join-requires-clause-a : goal.join-requires-clause-a
join-requires-clause-a c = listed_low c.args.self.now.now c.are_kept.ensures.kept c.args.lit.term (held_listed c.args.self.now.now c.are_kept.ensures.kept c.args.lit c.requires)

pub join-requires-clause-apart : goal.join-requires-clause-apart
join-requires-clause-apart c =
    let low = listed_low c.args.self.now.now c.are_kept.ensures.kept c.args.lit.term (held_listed c.args.self.now.now c.are_kept.ensures.kept c.args.lit c.requires) in
    let truth = c.truth_term-truth.ensures ∙ ap (λ (v : PartsView). truth_of v.now.facts.truths c.args.lit.positive) c.self.view_is in
    let truth_in = subst (λ (t : TermId). t.0 < length c.args.self.now.now.numbers) (sym truth) (truth_low c.args.self.now.now c.are_kept.ensures.kept c.args.lit.positive) in
    λ same. true≢false (sym (c.same.ensures.1 ((c.are_kept.ensures.kept.joint.agree c.args.lit.term c.truth_term-truth.result low truth_in).1 same)) ∙ c.if-not-same.true)

pub join-requires-clause-why : goal.join-requires-clause-why
join-requires-clause-why c =
    let truth = c.truth_term-truth.ensures ∙ ap (λ (v : PartsView). truth_of v.now.facts.truths c.args.lit.positive) c.self.view_is in
    (c.requires, inl (subst (λ (t : TermId). StatesEqual c.args.self.now.now.facts c.args.lit c.args.lit.term t) (sym truth) decides))

pub returns-in_default-clause-ok : goal.returns-in_default-clause-ok
returns-in_default-clause-ok c =
    let listed = held_listed c.args.self.now.now c.are_kept.ensures.kept c.args.lit c.requires in
    absurd (c.in_default.ensures (subst (λ (v : PartsView). IsListed v.now.facts.listed c.args.lit.term) (sym c.self.view_is) listed))

pub returns-in-None-clause-ok : goal.returns-in-None-clause-ok
returns-in-None-clause-ok c =
    let low = listed_low c.args.self.now.now c.are_kept.ensures.kept c.args.lit.term (held_listed c.args.self.now.now c.are_kept.ensures.kept c.args.lit c.requires) in
    let truth = c.truth_term-truth.ensures ∙ ap (λ (v : PartsView). truth_of v.now.facts.truths c.args.lit.positive) c.self.view_is in
    let linked = subst (λ (t : TermId). Linked c.args.self.now.now.edges c.args.lit.term.0 t.0) truth (c.same.ensures.0 c.if-not-same.false) in
    let decided = (c.are_kept.ensures.kept.joint.agree c.args.lit.term (truth_of c.args.self.now.now.facts.truths c.args.lit.positive) low (truth_low c.args.self.now.now c.are_kept.ensures.kept c.args.lit.positive)).0 linked in
    let place = subst (λ (v : PartsView). HasPlace v.now.facts.listed c.args.lit.term c.in-Some.place) c.self.view_is c.in-Some.ensures in
    (refl, given_plain c.args.self.now.now c.are_kept.ensures.kept c.args.lit decided c.in-Some.place place c.in-None.ensures)

pub give_sides-requires-clause-place : goal.give_sides-requires-clause-place
give_sides-requires-clause-place c = subst (λ (v : PartsView). HasPlace v.now.facts.listed c.args.lit.term c.in-Some.place) c.self.view_is c.in-Some.ensures
