use Rattle.std.proofs.Common.{◌≡◌, ◌<◌, ◌∙◌, length, take, get_or, ap, sym, subst, arith}
use Rattle.proof_log.specs.Theories.{Mark, TheoryView, no_mark, at_mark}
use Rattle.held_literals.specs.Room.{mark_of, marks_of}
use Rattle.held_literals.proofs.Marks.{marks_back, room_back, mark_at, marks_kept, marks_count}
use Rattle.held_literals.proofs.held.HeldLiterals.back_to.Goals as goal

pub invariant_of-self : goal.invariant_of-self
invariant_of-self c =
    let h = c.self.inside in
    let kept = c.args.kept in
    let marks = marks_of h.marks.items in
    let lt : kept < length marks = subst (λ (v : TheoryView). kept < length v.marks) (sym c.self.view_is) c.requires in
    let in_range : kept < length h.marks.items = omega (arith, lt, marks_count h.marks.items) in
    let m_is : get_or marks kept no_mark ≡ mark_of c.index-place.result.now =
    mark_at h.marks.items kept c.index-place.result.now in_range ∙ ap mark_of (sym c.index-place.ensures) in
    let a = c.truncate.ensures.items ∙ ap (λ (m : Mark). take m.held h.held.items) (sym m_is) in
    let b = c.truncate-2.ensures.items ∙ ap (λ (m : Mark). take m.watched h.watched.items) (sym m_is) in
    let d = ap marks_of c.truncate-3.ensures.items ∙ marks_kept h.marks.items kept in (
      rw (a, b, c.truncate.ensures.capacity)
          (room_back h.held.items h.watched.items marks c.self.invariant.1 kept lt _ c.self.invariant.0),
      rw (a, b, d) (marks_back h.held.items h.watched.items marks c.self.invariant.1 kept lt),
    )

pub returns : goal.returns
returns c =
    let h = c.self.inside in
    let kept = c.args.kept in
    let marks = marks_of h.marks.items in
    let lt : kept < length marks = subst (λ (v : TheoryView). kept < length v.marks) (sym c.self.view_is) c.requires in
    let in_range : kept < length h.marks.items = omega (arith, lt, marks_count h.marks.items) in
    let m_is : get_or marks kept no_mark ≡ mark_of c.index-place.result.now =
    mark_at h.marks.items kept c.index-place.result.now in_range ∙ ap mark_of (sym c.index-place.ensures) in
    let a = c.truncate.ensures.items ∙ ap (λ (m : Mark). take m.held h.held.items) (sym m_is) in
    let b = c.truncate-2.ensures.items ∙ ap (λ (m : Mark). take m.watched h.watched.items) (sym m_is) in
    let d = ap marks_of c.truncate-3.ensures.items ∙ marks_kept h.marks.items kept in
    let at : record { held = c.truncate.new.self.items; watched = c.truncate-2.new.self.items; marks = marks_of c.truncate-3.new.self.items }
    ≡ at_mark (record { held = h.held.items; watched = h.watched.items; marks = marks }) kept =
    λ i. record { held = a i; watched = b i; marks = d i } in
    at ∙ ap (λ (v : TheoryView). at_mark v kept) c.self.view_is
