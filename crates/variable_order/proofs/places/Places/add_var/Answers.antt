-- That a variable more is in no row, and has room.
use Rattle.std.proofs.Common.{arith, List, Option, ℕ, ap, None, length, subst, sym}
use Rattle.std.proofs.lemmas.List.{length_push}
use Rattle.term_core.specs.declared.ids.TermId.{TermId}
use Rattle.variable_order.specs.Kept.{ArePlaces}
use Rattle.variable_order.proofs.Rows.{placed_grown}
use Rattle.variable_order.proofs.places.Places.add_var.Goals as goal

pub invariant_of-self-2 : goal.invariant_of-self-2
invariant_of-self-2 c =
    let h = c.self.inside in
    record {
      placed = subst (λ (xs : List TermId). ArePlaces xs c.push.new.self.items) (sym c.reserve.ensures.items)
          (subst (λ (ps : List (Option ℕ)). ArePlaces h.row.items ps) (sym c.in_ok-push.ensures.items) (placed_grown h.row.items h.places.items c.self.invariant.placed));
      room = omega (arith, ap length c.in_ok-push.ensures.items, length_push h.places.items None, c.in_ok-reserve.ensures.ok, c.reserve.ensures.len, c.saturating_sub.ensures, c.len-wanted.ensures, c.len.ensures, h.places.ok.0, h.row.ok.0);
    }
