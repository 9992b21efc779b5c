-- The sides are where the literal says, or they are joined by it.
use Rattle.std.proofs.Common.{Bool, true≢false, inl, refl, sym, ◌∙◌, subst}
use Rattle.std.specs.Prelude.{Contains}
use Rattle.std.specs.Cmp.{booleans_Decides}
use Rattle.congruence_relation.specs.Relation.{equates}
use Rattle.congruence_closure.proofs.Turning.{tests_apart, tests_denied, ends_low, equality_at, equality_part, given_apart, given_as_held}
use Rattle.congruence_closure.proofs.parts.ClosureParts.give_sides.Goals as goal

pub returns-then-linked-lit-clause-ok : goal.returns-then-linked-lit-clause-ok
returns-then-linked-lit-clause-ok c = (
  refl,
  given_as_held c.args.self.now.now c.are_kept.ensures.kept c.args.lit c.requires.decided c.args.a c.args.b (equality_at c.args.self.now.now c.args.lit.term c.args.a c.args.b c.args.place c.requires.place c.requires.sides) c.same-linked.result c.same-linked.ensures
      ((booleans_Decides c.same-linked.result c.args.lit.positive).0 c.if-linked-lit.true),
)

pub join-requires-clause-a : goal.join-requires-clause-a
join-requires-clause-a c = (ends_low c.args.self.now.now c.are_kept.ensures.kept c.args.lit c.requires.decided c.args.a c.args.b (equality_at c.args.self.now.now c.args.lit.term c.args.a c.args.b c.args.place c.requires.place c.requires.sides)).0

pub join-requires-clause-b : goal.join-requires-clause-b
join-requires-clause-b c = (ends_low c.args.self.now.now c.are_kept.ensures.kept c.args.lit c.requires.decided c.args.a c.args.b (equality_at c.args.self.now.now c.args.lit.term c.args.a c.args.b c.args.place c.requires.place c.requires.sides)).1

pub join-requires-clause-apart : goal.join-requires-clause-apart
join-requires-clause-apart c =
    let low = ends_low c.args.self.now.now c.are_kept.ensures.kept c.args.lit c.requires.decided c.args.a c.args.b (equality_at c.args.self.now.now c.args.lit.term c.args.a c.args.b c.args.place c.requires.place c.requires.sides) in
    λ same. true≢false (sym (c.same-linked.ensures.1 ((c.are_kept.ensures.kept.joint.agree c.args.a c.args.b low.0 low.1).1 same)) ∙ c.if-not-linked.true)

pub join-requires-clause-why : goal.join-requires-clause-why
join-requires-clause-why c = (
  c.requires.held,
  inl (equates c.args.a c.args.b (tests_apart c.same-linked.result c.args.lit.positive c.if-linked-lit.false c.if-not-linked.true) (equality_at c.args.self.now.now c.args.lit.term c.args.a c.args.b c.args.place c.requires.place c.requires.sides)),
)

pub returns-then-takes_part_at-clause-ok : goal.returns-then-takes_part_at-clause-ok
returns-then-takes_part_at-clause-ok c =
    let negative = tests_denied c.same-linked.result c.args.lit.positive c.if-linked-lit.false c.if-not-linked.false in (
      subst (λ (b : Bool). Contains c.args.self.now.now.facts.held (record { term = c.args.lit.term; positive = b })) negative c.requires.held,
      (c.args.a, c.args.b, (equality_at c.args.self.now.now c.args.lit.term c.args.a c.args.b c.args.place c.requires.place c.requires.sides), equality_part c.args.self.now.now c.args.lit.term c.args.a c.args.b c.args.place c.requires.place c.requires.sides ∙ sym c.takes_part_at.ensures ∙ c.if-takes_part_at.true, c.same-linked.ensures.0 c.if-not-linked.false),
    )

pub returns-clause-ok : goal.returns-clause-ok
returns-clause-ok c = (
  refl,
  given_apart c.args.self.now.now c.are_kept.ensures.kept c.args.lit c.requires.decided c.args.a c.args.b (equality_at c.args.self.now.now c.args.lit.term c.args.a c.args.b c.args.place c.requires.place c.requires.sides)
      (tests_denied c.same-linked.result c.args.lit.positive c.if-linked-lit.false c.if-not-linked.false) (equality_part c.args.self.now.now c.args.lit.term c.args.a c.args.b c.args.place c.requires.place c.requires.sides ∙ sym c.takes_part_at.ensures ∙ c.if-takes_part_at.false),
)
