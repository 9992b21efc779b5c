use Rattle.std.proofs.Common.{◌≡◌, ◌-◌, ◌∙◌, List, length, take, ap, sym, subst, arith}
use Rattle.proof_log.specs.Theories.{Mark}
use Rattle.held_literals.specs.Room.{AreHeldMarks, marks_of, without_mark}
use Rattle.held_literals.proofs.Marks.{marks_first, marks_kept, marks_count}
use Rattle.held_literals.proofs.held.HeldLiterals.forget_mark.Goals as goal

pub invariant_of-self : goal.invariant_of-self
invariant_of-self c =
    let h = c.self.inside in
    let marks = marks_of h.marks.items in
    let count = marks_count h.marks.items in
    let kept = ap marks_of c.truncate.ensures.items ∙ marks_kept h.marks.items (c.len-kept.result - 1) in (
      c.self.invariant.0,
      subst (λ (ms : List Mark). AreHeldMarks h.held.items h.watched.items ms) (sym kept)
          (marks_first h.held.items h.watched.items marks c.self.invariant.1 (c.len-kept.result - 1) (omega (arith, c.len-kept.ensures, count))),
    )

pub returns : goal.returns
returns c =
    let h = c.self.inside in
    let count = marks_count h.marks.items in
    let n : c.len-kept.result - 1 ≡ length (marks_of h.marks.items) - 1 = omega (arith, c.len-kept.ensures, count) in
    let kept = ap marks_of c.truncate.ensures.items ∙ marks_kept h.marks.items (c.len-kept.result - 1) ∙ ap (λ k. take k (marks_of h.marks.items)) n in
    (λ i. record { held = h.held.items; watched = h.watched.items; marks = kept i }) ∙ ap without_mark c.self.view_is
