-- That both variables know their new places.
use Rattle.std.proofs.Common.{◌≡◌, ◌∙◌, ◌<◌, length, get_or, set, subst, sym, ap, arith, Some}
use Rattle.std.proofs.lemmas.List.{length-set, get_or_default}
use Rattle.variable_order.specs.Rows.{RowView, no_variable}
use Rattle.variable_order.proofs.Rows.{known_at, placed_swapped, members_swapped, moved_there}
use Rattle.variable_order.proofs.places.Places.swap.Goals as goal

pub index_mut-requires-3 : goal.index_mut-requires-3
index_mut-requires-3 c =
    let h = c.self.inside in
    let il : c.args.i < length h.row.items = subst (λ (r : RowView). c.args.i < length r.row) (sym c.self.view_is) c.requires.first in
    let a : c.index-a.result.now ≡ get_or h.row.items c.args.i no_variable = c.index-a.ensures ∙ get_or_default h.row.items c.args.i c.index-a.result.now no_variable il in
    omega (arith, known_at h.row.items h.places.items c.self.invariant.placed c.args.i c.index-a.result.now il a, h.places.ok.0)

pub index_mut-requires-4 : goal.index_mut-requires-4
index_mut-requires-4 c =
    let h = c.self.inside in
    let jl : c.args.j < length h.row.items = subst (λ (r : RowView). c.args.j < length r.row) (sym c.self.view_is) c.requires.second in
    let b : c.index-b.result.now ≡ get_or h.row.items c.args.j no_variable = c.index-b.ensures ∙ get_or_default h.row.items c.args.j c.index-b.result.now no_variable jl in
    omega (arith, known_at h.row.items h.places.items c.self.invariant.placed c.args.j c.index-b.result.now jl b, h.places.ok.0)

pub invariant_of-self : goal.invariant_of-self
invariant_of-self c =
    let h = c.self.inside in
    let il : c.args.i < length h.row.items = subst (λ (r : RowView). c.args.i < length r.row) (sym c.self.view_is) c.requires.first in
    let jl : c.args.j < length h.row.items = subst (λ (r : RowView). c.args.j < length r.row) (sym c.self.view_is) c.requires.second in
    let a : c.index-a.result.now ≡ get_or h.row.items c.args.i no_variable = c.index-a.ensures ∙ get_or_default h.row.items c.args.i c.index-a.result.now no_variable il in
    let b : c.index-b.result.now ≡ get_or h.row.items c.args.j no_variable = c.index-b.ensures ∙ get_or_default h.row.items c.args.j c.index-b.result.now no_variable jl in
    record {
      placed = placed_swapped h.row.items h.places.items c.self.invariant.placed c.args.i c.args.j il jl c.index-a.result.now c.index-b.result.now a b;
      room = omega (arith, length-set h.places.items c.index-a.result.now.0 (Some c.args.j), length-set (set h.places.items c.index-a.result.now.0 (Some c.args.j)) c.index-b.result.now.0 (Some c.args.i), c.self.invariant.room);
    }

pub returns-clause-members : goal.returns-clause-members
returns-clause-members c =
    let h = c.self.inside in
    let il : c.args.i < length h.row.items = subst (λ (r : RowView). c.args.i < length r.row) (sym c.self.view_is) c.requires.first in
    let jl : c.args.j < length h.row.items = subst (λ (r : RowView). c.args.j < length r.row) (sym c.self.view_is) c.requires.second in
    let a : c.index-a.result.now ≡ get_or h.row.items c.args.i no_variable = c.index-a.ensures ∙ get_or_default h.row.items c.args.i c.index-a.result.now no_variable il in
    let b : c.index-b.result.now ≡ get_or h.row.items c.args.j no_variable = c.index-b.ensures ∙ get_or_default h.row.items c.args.j c.index-b.result.now no_variable jl in
    members_swapped h.row.items h.places.items c.self.invariant.placed c.args.i c.args.j il jl c.index-a.result.now c.index-b.result.now a b ∙ ap (λ (r : RowView). r.members) c.self.view_is

pub returns-clause-moved : goal.returns-clause-moved
returns-clause-moved c =
    let h = c.self.inside in
    let il : c.args.i < length h.row.items = subst (λ (r : RowView). c.args.i < length r.row) (sym c.self.view_is) c.requires.first in
    let jl : c.args.j < length h.row.items = subst (λ (r : RowView). c.args.j < length r.row) (sym c.self.view_is) c.requires.second in
    let a : c.index-a.result.now ≡ get_or h.row.items c.args.i no_variable = c.index-a.ensures ∙ get_or_default h.row.items c.args.i c.index-a.result.now no_variable il in
    let b : c.index-b.result.now ≡ get_or h.row.items c.args.j no_variable = c.index-b.ensures ∙ get_or_default h.row.items c.args.j c.index-b.result.now no_variable jl in
    moved_there h.row.items h.places.items c.self.invariant.placed c.args.i c.args.j il jl c.index-a.result.now c.index-b.result.now a b ∙ ap (λ (r : RowView). get_or r.row c.args.i no_variable) c.self.view_is
