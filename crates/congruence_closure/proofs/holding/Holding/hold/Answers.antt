-- There is room for one more, and its place is noted.
use Rattle.std.proofs.Common.{◌≡◌, ◌<◌, length, sym, ap, ◌∙◌, subst, arith}
use Rattle.std.specs.Prelude.{vec_capacity, Contains}
use Rattle.congruence_closure.specs.Tables.{HoldingView, noted}
use Rattle.congruence_closure.proofs.Denials.{denials_push, room_left}
use Rattle.congruence_closure.proofs.holding.Holding.hold.Goals as goal

pub push_reserved-requires : goal.push_reserved-requires
push_reserved-requires c =
    let there = subst (λ (v : HoldingView). c.args.lit.term.0 < v.terms) (sym c.self.view_is) c.requires.term in
    let absent = subst (λ (v : HoldingView). Contains v.held c.args.lit → ⊥) (sym c.self.view_is) c.requires.new in
    omega (arith, room_left c.self.inside.held.items c.self.inside.denials.items (vec_capacity c.self.inside.held) c.args.lit c.self.invariant there absent, c.self.inside.held.ok.0)

pub invariant_of-self : goal.invariant_of-self
invariant_of-self c =
    let there = subst (λ (v : HoldingView). c.args.lit.term.0 < v.terms) (sym c.self.view_is) c.requires.term in
    let absent = subst (λ (v : HoldingView). Contains v.held c.args.lit → ⊥) (sym c.self.view_is) c.requires.new in
    let place : c.len.result ≡ length c.self.inside.held.items = omega (arith, c.self.inside.held.ok.0) in
    let is = c.note_denial.ensures ∙ ap (noted c.self.inside.denials.items c.args.lit) place in
    rw (c.push_reserved.ensures.items, is, c.push_reserved.ensures.capacity)
    (denials_push c.self.inside.held.items c.self.inside.denials.items (vec_capacity c.self.inside.held) c.args.lit c.self.invariant there absent)
