-- That a place is one of the row's.
use Rattle.std.proofs.Common.{◌≡◌, ◌∙◌, ◌<◌, ℕ, false, length, get_or, map, subst, sym, arith, Option, None}
use Rattle.std.specs.Prelude.{MatchOption}
use Rattle.std.specs.Option.{is_some}
use Rattle.std.proofs.lemmas.List.{get_or_default, length-map}
use Rattle.variable_order.specs.Rows.{RowView, IsAt}
use Rattle.variable_order.specs.Kept.{order_view}
use Rattle.variable_order.proofs.Rows.{place_by}
use Rattle.variable_order.proofs.places.Places.place.Goals as goal

pub returns : goal.returns
returns c =
    let h = c.self.inside in
    let v = c.args.v in
    let lt : v.0 < length h.places.items = omega (arith, subst (λ (r : RowView). v.0 < length r.members) (sym c.self.view_is) c.requires, length-map h.places.items is_some) in
    let is : c.index.result.now ≡ get_or h.places.items v.0 None = c.index.ensures ∙ get_or_default h.places.items v.0 c.index.result.now None lt in
    let by : (o : Option ℕ) → get_or h.places.items v.0 None ≡ o → MatchOption o (get_or (map is_some h.places.items) v.0 false ≡ false) (IsAt (order_view h) v) = place_by h v c.self.invariant.placed in
    subst (λ (r : RowView). MatchOption c.index.result.now (get_or r.members v.0 false ≡ false) (IsAt r v)) c.self.view_is (by c.index.result.now (sym is))
