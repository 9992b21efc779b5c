-- That the last variable is out, and the others know their places.
use Rattle.std.proofs.Common.{◌≡◌, ◌∙◌, length, set, map, subst, sym, ap, arith, List, None, inl, inr, true≢false}
use Rattle.std.specs.Option.{is_some}
use Rattle.std.proofs.lemmas.Bool.{cases_lt}
use Rattle.std.proofs.lemmas.List.{length-set, map-set, append-nil, nil_from_length}
use Rattle.term_core.specs.declared.ids.TermId.{TermId}
use Rattle.variable_order.specs.Orders.{IsRemoved, IsEmpty}
use Rattle.variable_order.specs.Rows.{RowView}
use Rattle.variable_order.specs.Kept.{ArePlaces}
use Rattle.variable_order.proofs.Rows.{member_of, none_in, last_known, last_place, placed_popped}
use Rattle.variable_order.proofs.places.Places.pop.Goals as goal

pub returns-in_default-clause-members : goal.returns-in_default-clause-members
returns-in_default-clause-members c =
    let h = c.self.inside in
    let e = c.in_default.ensures in
    let none : length h.row.items ≡ 0 = elim (cases_lt 0 (length h.row.items)) [
      | inl lt ↦ absurd (true≢false (sym (e.variant.1 (omega (arith, lt, h.row.ok.0)))))
      | inr le ↦ omega (arith, le)
    ] in
    let row : c.pop.new.self.items ≡ h.row.items = sym (append-nil c.pop.new.self.items) ∙ sym e.items in (
      subst (λ (r : RowView). IsEmpty r.members) c.self.view_is (none_in h.row.items h.places.items c.self.invariant.placed (nil_from_length h.row.items none)),
      (λ i. record { row = row i; members = map is_some h.places.items }) ∙ c.self.view_is,
    )

pub index_mut-requires : goal.index_mut-requires
index_mut-requires c =
    let h = c.self.inside in
    omega (arith, last_known c.pop.new.self.items c.in-Some.v h.places.items (subst (λ (xs : List TermId). ArePlaces xs h.places.items) c.in-Some.ensures.items c.self.invariant.placed), h.places.ok.0)

pub invariant_of-self-2 : goal.invariant_of-self-2
invariant_of-self-2 c =
    let h = c.self.inside in
    let v = c.in-Some.v in
    record {
      placed = placed_popped c.pop.new.self.items v h.places.items (subst (λ (xs : List TermId). ArePlaces xs h.places.items) c.in-Some.ensures.items c.self.invariant.placed);
      room = omega (arith, length-set h.places.items v.0 None, c.in-Some.ensures.capacity, c.self.invariant.room);
    }

pub returns-clause-members : goal.returns-clause-members
returns-clause-members c =
    let h = c.self.inside in
    let v = c.in-Some.v in
    let placed = subst (λ (xs : List TermId). ArePlaces xs h.places.items) c.in-Some.ensures.items c.self.invariant.placed in
    subst (λ (r : RowView). IsRemoved r.members v (map is_some (set h.places.items v.0 None))) c.self.view_is (record {
      was_in = member_of h.places.items v.0 ∙ ap is_some (last_place c.pop.new.self.items v h.places.items placed);
      members = map-set is_some h.places.items v.0 None;
    })

pub returns-clause-row : goal.returns-clause-row
returns-clause-row c = ap (λ (r : RowView). r.row) (sym c.self.view_is) ∙ c.in-Some.ensures.items
