-- The condition of a row, and its value.
use Rattle.world_io.proofs.Chains.{next, fails, last}
use Rattle.term_walks.specs.Valuations.{row_meant}
use Rattle.model_text.proofs.Texts.{front_start}
use Rattle.model_text.proofs.definitions.write_front.Goals as goal

pub returns-in_err-write_all : goal.returns-in_err-write_all
returns-in_err-write_all g c = fails _ (front_start (row_meant c.args.symbols.now.sorts c.args.row.now) _) c.in_err-write_all.ensures c.from_residual.ensures.0

pub returns-in_err-write_condition : goal.returns-in_err-write_condition
returns-in_err-write_condition g c = fails _ (next (front_start (row_meant c.args.symbols.now.sorts c.args.row.now) _) c.in_ok-write_all.ensures) (rw c.as_slice.ensures.value at c.in_err-write_condition.ensures) c.from_residual-in_err-write_condition.ensures.0

pub returns-in_err-write_all-2 : goal.returns-in_err-write_all-2
returns-in_err-write_all-2 g c =
    let s1 = next (front_start (row_meant c.args.symbols.now.sorts c.args.row.now) _) c.in_ok-write_all.ensures in
    fails _ (next s1 (rw c.as_slice.ensures.value at c.in_ok-write_condition.ensures)) c.in_err-write_all-2.ensures c.from_residual-in_err-write_all-2.ensures.0

pub returns-in_err-write_value : goal.returns-in_err-write_value
returns-in_err-write_value g c =
    let s1 = next (front_start (row_meant c.args.symbols.now.sorts c.args.row.now) _) c.in_ok-write_all.ensures in
    fails _ (next (next s1 (rw c.as_slice.ensures.value at c.in_ok-write_condition.ensures)) c.in_ok-write_all-2.ensures) c.in_err-write_value.ensures c.from_residual-in_err-write_value.ensures.0

pub returns : goal.returns
returns g c =
    let s1 = next (front_start (row_meant c.args.symbols.now.sorts c.args.row.now) _) c.in_ok-write_all.ensures in
    last _ _ (next (next (next s1 (rw c.as_slice.ensures.value at c.in_ok-write_condition.ensures)) c.in_ok-write_all-2.ensures) c.in_ok-write_value.ensures) c.write_all-3.ensures
