-- That what is in the row is a variable.
use Rattle.std.proofs.Common.{◌∙◌, ◌≡◌, ◌<◌, length, get_or, subst, sym, arith}
use Rattle.std.specs.Option.{is_some}
use Rattle.std.proofs.lemmas.List.{get_or_default, length-map}
use Rattle.variable_order.specs.Rows.{RowView, no_variable}
use Rattle.variable_order.proofs.Rows.{known}
use Rattle.variable_order.proofs.places.Places.at.Goals as goal

pub returns : goal.returns
returns c =
    let h = c.self.inside in
    let lt : c.args.place < length h.row.items = subst (λ (r : RowView). c.args.place < length r.row) (sym c.self.view_is) c.requires in
    let is : c.index.result.now ≡ get_or h.row.items c.args.place no_variable = c.index.ensures ∙ get_or_default h.row.items c.args.place c.index.result.now no_variable lt in
    record {
      known = subst (λ (r : RowView). c.index.result.now.0 < length r.members) c.self.view_is
          (rw is (omega (arith, known h.row.items h.places.items c.self.invariant.placed c.args.place lt, length-map h.places.items is_some)));
    }
