-- The rows, the default, and what closes the rows.
use Rattle.std.proofs.Common.{map}
use Rattle.world_io.proofs.Chains.{next, fails, last}
use Rattle.term_walks.specs.Valuations.{row_meant, value_meant}
use Rattle.model_text.proofs.Texts.{body_start}
use Rattle.model_text.proofs.definitions.write_body.Goals as goal

pub returns-in_err-write_fronts : goal.returns-in_err-write_fronts
returns-in_err-write_fronts g c =
    let sorts = c.args.symbols.now.sorts in
    let s0 = body_start (map (row_meant sorts) c.args.table.now.rows.items) (value_meant sorts c.args.table.now.default) _ c.bodies_are_printed_by_rows.ensures in
    fails _ s0 (rw c.as_slice.ensures.value at c.in_err-write_fronts.ensures) c.from_residual.ensures.0

pub returns-in_err-write_value : goal.returns-in_err-write_value
returns-in_err-write_value g c =
    let sorts = c.args.symbols.now.sorts in
    let s0 = body_start (map (row_meant sorts) c.args.table.now.rows.items) (value_meant sorts c.args.table.now.default) _ c.bodies_are_printed_by_rows.ensures in
    fails _ (next s0 (rw c.as_slice.ensures.value at c.in_ok-write_fronts.ensures)) c.in_err-write_value.ensures c.from_residual-in_err-write_value.ensures.0

pub returns : goal.returns
returns g c =
    let sorts = c.args.symbols.now.sorts in
    let s0 = body_start (map (row_meant sorts) c.args.table.now.rows.items) (value_meant sorts c.args.table.now.default) _ c.bodies_are_printed_by_rows.ensures in
    last _ _ (next (next s0 (rw c.as_slice.ensures.value at c.in_ok-write_fronts.ensures)) c.in_ok-write_value.ensures) (rw c.as_slice-2.ensures.value at c.write_backs.ensures)
