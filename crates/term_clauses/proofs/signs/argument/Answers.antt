-- The node has the arguments.
use Rattle.std.proofs.Common.{List, length, get_or, ap, ◌∙◌, arith}
use Rattle.spec_sorts.specs.Terms.{no_term}
use Rattle.term_core.specs.declared.ids.TermId.{TermId}
use Rattle.term_core.specs.Tables.{term_at, shape_of}
use Rattle.term_clauses.proofs.Arguments.{no_number, arguments_count, argument_at}
use Rattle.term_clauses.proofs.signs.argument.Goals as goal

pub bounds-as_slice-place : goal.bounds-as_slice-place
bounds-as_slice-place c =
    let t = c.args.table.now in
    let count = arguments_count t (shape_of c.node.result.now) (term_at t c.args.id) c.node.ensures.means in
    omega (arith, c.requires.place, count, ap length c.as_slice.ensures)

pub offset_bounds-as_slice-place : goal.offset_bounds-as_slice-place
offset_bounds-as_slice-place c = omega (arith, bounds-as_slice-place c, c.as_slice.type_inv.1)

pub returns-clause-means : goal.returns-clause-means
returns-clause-means c =
    let t = c.args.table.now in
    let s = shape_of c.node.result.now in
    let count = arguments_count t s (term_at t c.args.id) c.node.ensures.means in
    ap (λ (ids : List TermId). term_at t (get_or ids c.args.place no_number)) c.as_slice.ensures
    ∙ argument_at t s (term_at t c.args.id) c.node.ensures.means c.args.place no_number no_term (omega (arith, c.requires.place, count))
