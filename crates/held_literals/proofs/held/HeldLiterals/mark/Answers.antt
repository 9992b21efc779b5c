use Rattle.std.proofs.Common.{◌≡◌, ◌∙◌, ◌++◌, ◌∷◌, [], List, length, sym, subst, ap, rules}
use Rattle.proof_log.specs.Theories.{Mark}
use Rattle.held_literals.specs.declared.held.HeldCounts.{HeldCounts}
use Rattle.held_literals.specs.Room.{AreHeldMarks, marks_of}
use Rattle.held_literals.proofs.Marks.{marks_more, marks_more_of}
use Rattle.held_literals.proofs.held.HeldLiterals.mark.Goals as goal

pub invariant_of-self-2 : goal.invariant_of-self-2
invariant_of-self-2 c =
    let h = c.self.inside in
    let held : c.len.result ≡ length h.held.items = search rules in
    let watched : c.len-2.result ≡ length h.watched.items = search rules in
    let place : HeldCounts = record { held = c.len.result; watched = c.len-2.result } in
    let more = marks_more h.held.items h.watched.items (marks_of h.marks.items) c.self.invariant.1 c.self.invariant.0.literals.over in (
      c.self.invariant.0,
      subst (λ (ms : List Mark). AreHeldMarks h.held.items h.watched.items ms)
          (sym (ap marks_of c.in_ok-push.ensures.items ∙ marks_more_of h.marks.items place
          ∙ (λ i. marks_of h.marks.items ++ record { held = held i; watched = watched i } ∷ [])))
          more,
    )
