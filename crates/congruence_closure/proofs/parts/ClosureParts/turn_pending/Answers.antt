-- The first of those to look at again is done.
use Rattle.std.proofs.Common.{◌≡◌, ◌<◌, ◌+◌, true, length, drop, get_or, sym, ap, ◌∙◌, subst, arith}
use Rattle.std.proofs.lemmas.List.{drop_more, length-drop, get_or_default}
use Rattle.congruence_closure.specs.Listed.{nth}
use Rattle.congruence_closure.specs.State.{Left, PartsView, HasKey, IsApart}
use Rattle.congruence_closure.specs.Kept.{state_of}
use Rattle.congruence_closure.proofs.Steps.{kept_next}
use Rattle.congruence_closure.proofs.Terms.{cons_same}
use Rattle.congruence_closure.proofs.parts.ClosureParts.turn_pending.Goals as goal

pub invariant_of-self : goal.invariant_of-self
invariant_of-self c =
    let some = subst (λ (v : PartsView). 0 < length v.now.left.pending) (sym c.self.view_is) c.requires in
    let low : c.self.inside.next < length c.self.inside.pending.items = omega (arith, some, length-drop c.self.inside.next c.self.inside.pending.items) in
    let is = drop_more c.self.inside.pending.items c.self.inside.next 0 low in
    let first = get_or_default c.self.inside.pending.items c.self.inside.next c.index-place.result.now 0 low in
    record {
      kept = kept_next (state_of c.self.inside) (get_or c.self.inside.pending.items c.self.inside.next 0) (drop (c.self.inside.next + 1) c.self.inside.pending.items) c.self.invariant.kept is
          (λ lt part. absurd (omega (arith, lt, c.index-place.ensures ∙ first)));
      terms = c.self.invariant.terms;
      room = c.self.invariant.room;
      next = omega (arith, low);
    }

pub invariant_of-self-in-Quiet : goal.invariant_of-self-in-Quiet
invariant_of-self-in-Quiet c =
    let told = rw c.in-Quiet.is at c.in_ok-turn.ensures.ok in
    let left : drop c.self-2.inside.next c.self-2.inside.pending.items ≡ drop c.self.inside.next c.self.inside.pending.items
    = ap (λ (v : PartsView). v.now.left.pending) c.self-2.view_is ∙ ap (λ (l : Left). l.pending) told.0 ∙ sym (ap (λ (v : PartsView). v.now.left.pending) c.self.view_is) in
    let some = subst (λ (v : PartsView). 0 < length v.now.left.pending) (sym c.self.view_is) c.requires in
    let low : c.self.inside.next < length c.self.inside.pending.items = omega (arith, some, length-drop c.self.inside.next c.self.inside.pending.items) in
    let still : c.self-2.inside.next < length c.self-2.inside.pending.items
    = omega (arith, some, ap length left, length-drop c.self-2.inside.next c.self-2.inside.pending.items) in
    let was = drop_more c.self.inside.pending.items c.self.inside.next 0 low in
    let is = drop_more c.self-2.inside.pending.items c.self-2.inside.next 0 still in
    let first : c.index-place.result.now ≡ get_or c.self-2.inside.pending.items c.self-2.inside.next 0
    = c.index-place.ensures ∙ get_or_default c.self.inside.pending.items c.self.inside.next c.index-place.result.now 0 low ∙ (cons_same (sym was ∙ sym left ∙ is)).0 in
    let ready = subst (λ (v : PartsView). (nth v.now.facts.listed c.index-place.result.now).takes_part ≡ true → HasKey v.now c.index-place.result.now × IsApart v.now c.index-place.result.now)
    (sym c.self-2.view_is) told.2 in
    record {
      kept = kept_next (state_of c.self-2.inside) (get_or c.self-2.inside.pending.items c.self-2.inside.next 0) (drop (c.self-2.inside.next + 1) c.self-2.inside.pending.items) c.self-2.invariant.kept is
          (λ lt. subst (λ n. (nth c.self-2.inside.listing n).takes_part ≡ true → HasKey (state_of c.self-2.inside) n × IsApart (state_of c.self-2.inside) n) first ready);
      terms = c.self-2.invariant.terms;
      room = c.self-2.invariant.room;
      next = omega (arith, still);
    }
