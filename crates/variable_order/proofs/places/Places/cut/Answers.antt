-- That the row's variables stay.
use Rattle.std.proofs.Common.{◌≡◌, ◌∙◌, ◌≤◌, ℕ, false, length, get_or, map, subst, sym, ap, arith, List, Option, take}
use Rattle.std.specs.Option.{is_some}
use Rattle.std.proofs.lemmas.List.{take-map}
use Rattle.variable_order.specs.Rows.{RowView}
use Rattle.variable_order.specs.Kept.{ArePlaces}
use Rattle.variable_order.proofs.Rows.{placed_cut, room_cut}
use Rattle.variable_order.proofs.places.Places.cut.Goals as goal

pub invariant_of-self : goal.invariant_of-self
invariant_of-self c =
    let h = c.self.inside in
    let vars = c.args.vars in
    let out = subst (λ (r : RowView). (k : ℕ) → vars ≤ k → get_or r.members k false ≡ false) (sym c.self.view_is) c.requires.out in
    record {
      placed = subst (λ (ps : List (Option ℕ)). ArePlaces h.row.items ps) (sym c.truncate.ensures.items) (placed_cut h.row.items h.places.items c.self.invariant.placed vars out);
      room = omega (arith, ap length c.truncate.ensures.items, room_cut h.row.items h.places.items c.self.invariant.placed vars out, c.self.invariant.room);
    }

pub returns-clause-members : goal.returns-clause-members
returns-clause-members c = ap (map is_some) c.truncate.ensures.items ∙ sym (take-map is_some c.args.vars c.self.inside.places.items) ∙ ap (λ (r : RowView). take c.args.vars r.members) c.self.view_is
