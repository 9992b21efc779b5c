use Rattle.std.proofs.Common.{◌∷◌, [], ap, arith, length, length-append}
use Rattle.std.proofs.lemmas.List.Elements.{Contains-append_left}
use Rattle.held_literals.specs.Room.{marks_of}
use Rattle.held_literals.proofs.Marks.{marks_watched}
use Rattle.held_literals.proofs.held.HeldLiterals.watch.Goals as goal

pub invariant_of-self-in_err-push : goal.invariant_of-self-in_err-push
invariant_of-self-in_err-push c =
    let h = c.self.inside in
    let room = c.self.invariant.0.room in
    let capacity = c.reserve.ensures.capacity in (
      record {
        literals = record {
          once = rw c.reserve.ensures.items c.self.invariant.0.literals.once;
          over = rw (c.reserve.ensures.items, c.in_err-push.ensures.items) c.self.invariant.0.literals.over;
        };
        room = omega (arith, room, capacity, ap length c.in_err-push.ensures.items);
      },
      rw (c.reserve.ensures.items, c.in_err-push.ensures.items) c.self.invariant.1,
    )

pub invariant_of-self-2 : goal.invariant_of-self-2
invariant_of-self-2 c =
    let h = c.self.inside in
    let ok = c.in_ok-reserve.ensures.ok in (
      record {
        literals = record {
          once = rw c.reserve.ensures.items c.self.invariant.0.literals.once;
          over = rw (c.reserve.ensures.items, c.in_ok-push.ensures.items)
              (λ k d lt. Contains-append_left h.watched.items (c.args.id ∷ []) _ (c.self.invariant.0.literals.over k d lt));
        };
        room = omega (
          arith,
          ok,
          c.reserve.ensures.len,
          ap length c.in_ok-push.ensures.items,
          length-append h.watched.items (c.args.id ∷ []),
          c.saturating_sub.ensures,
          c.len.ensures,
          c.len-2.ensures,
          h.held.ok.0,
          h.watched.ok.0,
        );
      },
      rw (c.reserve.ensures.items, c.in_ok-push.ensures.items)
          (marks_watched h.held.items h.watched.items (marks_of h.marks.items) c.self.invariant.1 c.args.id),
    )
