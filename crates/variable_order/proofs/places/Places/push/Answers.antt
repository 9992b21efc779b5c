-- That there is room for a variable more, and it knows its place.
use Rattle.std.proofs.Common.{◌≡◌, ◌∙◌, ◌<◌, ◌++◌, ◌∷◌, [], false, true, length, get_or, set, subst, sym, ap, arith, List, ℕ, Some}
use Rattle.std.specs.Option.{is_some}
use Rattle.std.proofs.lemmas.List.{length-map, length-set, map-set}
use Rattle.term_core.specs.declared.ids.TermId.{TermId}
use Rattle.variable_order.specs.Rows.{RowView}
use Rattle.variable_order.specs.Kept.{ArePlaces}
use Rattle.variable_order.proofs.Rows.{not_member, placed_pushed, fits}
use Rattle.variable_order.proofs.places.Places.push.Goals as goal

pub push_reserved-requires : goal.push_reserved-requires
push_reserved-requires c =
    let h = c.self.inside in
    let v = c.args.v in
    let lt : v.0 < length h.places.items = omega (arith, subst (λ (r : RowView). v.0 < length r.members) (sym c.self.view_is) c.requires.known, length-map h.places.items is_some) in
    let none = not_member h.places.items v.0 (subst (λ (r : RowView). get_or r.members v.0 false ≡ false) (sym c.self.view_is) c.requires.new) in
    omega (arith, fits h.row.items h.places.items c.self.invariant.placed v lt none, c.self.invariant.room, h.row.ok.0)

pub invariant_of-self : goal.invariant_of-self
invariant_of-self c =
    let h = c.self.inside in
    let v = c.args.v in
    let lt : v.0 < length h.places.items = omega (arith, subst (λ (r : RowView). v.0 < length r.members) (sym c.self.view_is) c.requires.known, length-map h.places.items is_some) in
    let none = not_member h.places.items v.0 (subst (λ (r : RowView). get_or r.members v.0 false ≡ false) (sym c.self.view_is) c.requires.new) in
    let last : length h.row.items ≡ c.len.result = omega (arith, c.len.ensures, h.row.ok.0) in
    record {
      placed = subst (λ (xs : List TermId). ArePlaces xs (set h.places.items v.0 (Some c.len.result))) (sym c.push_reserved.ensures.items)
          (subst (λ (n : ℕ). ArePlaces (h.row.items ++ v ∷ []) (set h.places.items v.0 (Some n))) last (placed_pushed h.row.items h.places.items c.self.invariant.placed v lt none));
      room = omega (arith, length-set h.places.items v.0 (Some c.len.result), c.push_reserved.ensures.capacity, c.self.invariant.room);
    }

pub returns-clause-members : goal.returns-clause-members
returns-clause-members c = map-set is_some c.self.inside.places.items c.args.v.0 (Some c.len.result) ∙ ap (λ (r : RowView). set r.members c.args.v.0 true) c.self.view_is
