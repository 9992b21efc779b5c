use Rattle.std.proofs.Common.{subst, sym, arith, Contains}
use Rattle.proof_log.specs.Theories.{TheoryView}
use Rattle.held_literals.specs.Room.{marks_of}
use Rattle.held_literals.proofs.Rooms.{room_left, held_more}
use Rattle.held_literals.proofs.Marks.{marks_held}
use Rattle.held_literals.proofs.held.HeldLiterals.hold.Goals as goal

pub push_reserved-requires : goal.push_reserved-requires
push_reserved-requires c =
    let h = c.self.inside in
    let l = c.args.lit in
    let there = subst (λ (x : TheoryView). Contains x.watched l.term) (sym c.self.view_is) c.requires.watched in
    let fresh = subst (λ (x : TheoryView). Contains x.held l → ⊥) (sym c.self.view_is) c.requires.new in
    let left = room_left h.held.items h.watched.items l c.self.invariant.0.literals there fresh in
    let room = c.self.invariant.0.room in
    omega (arith, left, room, h.held.ok.0)

pub invariant_of-self : goal.invariant_of-self
invariant_of-self c =
    let h = c.self.inside in
    let l = c.args.lit in
    let there = subst (λ (x : TheoryView). Contains x.watched l.term) (sym c.self.view_is) c.requires.watched in
    let fresh = subst (λ (x : TheoryView). Contains x.held l → ⊥) (sym c.self.view_is) c.requires.new in (
      record {
        literals = rw c.push_reserved.ensures.items (held_more h.held.items h.watched.items l c.self.invariant.0.literals there fresh);
        room = rw c.push_reserved.ensures.capacity c.self.invariant.0.room;
      },
      rw c.push_reserved.ensures.items (marks_held h.held.items h.watched.items (marks_of h.marks.items) c.self.invariant.1 l),
    )
