-- That a disjunction of three has three arguments.
use Rattle.std.proofs.Common.{◌≡◌, List, [], ◌∷◌, length, ap, arith}
use Rattle.spec_sorts.specs.Terms.{Or}
use Rattle.term_core.specs.declared.ids.TermId.{TermId}
use Rattle.term_core.specs.Tables.{shape_of}
use Rattle.linear_form.proofs.Shapes.{as_many}
use Rattle.linear_form.proofs.orders.three_of.Goals as goal

pub returns-in_default : goal.returns-in_default
returns-in_default c = λ s t u e.
    let many = as_many c.args.table.now (shape_of c.node-node.result.now) _ Or (s ∷ t ∷ u ∷ []) c.node-node.ensures.means e in
    let slice : length c.as_slice.result.now ≡ length c.node-node.result.now.arguments.items = ap (λ (ids : List TermId). length ids) c.as_slice.ensures in
    omega (arith, many, slice, c.in_default.len_below)

pub returns-in_default-2 : goal.returns-in_default-2
returns-in_default-2 c = λ s t u e.
    let many = as_many c.args.table.now (shape_of c.node-node.result.now) _ Or (s ∷ t ∷ u ∷ []) c.node-node.ensures.means e in
    let slice : length c.as_slice.result.now ≡ length c.node-node.result.now.arguments.items = ap (λ (ids : List TermId). length ids) c.as_slice.ensures in
    omega (arith, many, slice, c.in_default.len_at_least)
