-- A row begins where the one before it ends.
use Rattle.std.proofs.Common.{◌<◌, [], length, get_or, sym, ap, ◌∙◌, arith}
use Rattle.std.specs.Prelude.{slice_range}
use Rattle.assertion_stack.proofs.RowEnds.{rows_long, row_within, row_at}
use Rattle.assertion_stack.proofs.rows.Rows.row.Goals as goal

pub start_of-start-requires : goal.start_of-start-requires
start_of-start-requires c = omega (arith, rows_long c.self.inside.bytes.items 0 c.self.inside.ends.items, ap length c.self.view_is, c.requires)

pub index-requires : goal.index-requires
index-requires c = omega (arith, rows_long c.self.inside.bytes.items 0 c.self.inside.ends.items, ap length c.self.view_is, c.requires, c.self.inside.ends.ok.0)

pub slice_bounds-result-count : goal.slice_bounds-result-count
slice_bounds-result-count c =
    let lt : c.args.place < length c.self.inside.ends.items = omega (arith, rows_long c.self.inside.bytes.items 0 c.self.inside.ends.items, ap length c.self.view_is, c.requires) in
    let within = row_within 0 c.self.inside.ends.items (length c.self.inside.bytes.items) c.args.place c.index.result.now c.self.invariant lt in
    omega (arith, within.0, c.start_of-start.ensures, c.index.ensures)

pub slice_bounds-result-start : goal.slice_bounds-result-start
slice_bounds-result-start c =
    let lt : c.args.place < length c.self.inside.ends.items = omega (arith, rows_long c.self.inside.bytes.items 0 c.self.inside.ends.items, ap length c.self.view_is, c.requires) in
    let within = row_within 0 c.self.inside.ends.items (length c.self.inside.bytes.items) c.args.place c.index.result.now c.self.invariant lt in
    omega (arith, within.0, c.start_of-start.ensures, c.index.ensures)

pub slice_bounds-result-end : goal.slice_bounds-result-end
slice_bounds-result-end c =
    let lt : c.args.place < length c.self.inside.ends.items = omega (arith, rows_long c.self.inside.bytes.items 0 c.self.inside.ends.items, ap length c.self.view_is, c.requires) in
    let within = row_within 0 c.self.inside.ends.items (length c.self.inside.bytes.items) c.args.place c.index.result.now c.self.invariant lt in
    omega (arith, within.0, within.1, c.start_of-start.ensures, c.index.ensures, ap length c.deref.ensures.value)

pub returns : goal.returns
returns c =
    let lt : c.args.place < length c.self.inside.ends.items = omega (arith, rows_long c.self.inside.bytes.items 0 c.self.inside.ends.items, ap length c.self.view_is, c.requires) in
    (λ i. slice_range (c.deref.ensures.value i) (c.start_of-start.ensures i) (c.index.ensures i))
    ∙ sym (row_at c.self.inside.bytes.items 0 c.self.inside.ends.items c.args.place c.index.result.now lt)
    ∙ ap (λ rs. get_or rs c.args.place []) c.self.view_is
