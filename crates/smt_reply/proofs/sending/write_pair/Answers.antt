-- A text and a value in their parentheses.
use Rattle.world_io.proofs.Chains.{next, fails, last}
use Rattle.smt_reply.proofs.Listed.{pair_start}
use Rattle.smt_reply.proofs.sending.write_pair.Goals as goal

pub returns-in_err-write_all : goal.returns-in_err-write_all
returns-in_err-write_all g c = fails _ (pair_start c.args.symbols.now.sorts c.args.k c.args.pair.now _ _ c.opening.ensures) c.in_err-write_all.ensures c.from_residual.ensures.0

pub returns-in_err-write_all-2 : goal.returns-in_err-write_all-2
returns-in_err-write_all-2 g c =
    let s0 = pair_start c.args.symbols.now.sorts c.args.k c.args.pair.now _ _ c.opening.ensures in
    fails _ (next s0 c.in_ok-write_all.ensures) (rw c.as_slice.ensures at c.in_err-write_all-2.ensures) c.from_residual-in_err-write_all-2.ensures.0

pub returns-in_err-write_all-3 : goal.returns-in_err-write_all-3
returns-in_err-write_all-3 g c =
    let s0 = pair_start c.args.symbols.now.sorts c.args.k c.args.pair.now _ _ c.opening.ensures in
    let s2 = next (next s0 c.in_ok-write_all.ensures) (rw c.as_slice.ensures at c.in_ok-write_all-2.ensures) in
    fails _ s2 c.in_err-write_all-3.ensures c.from_residual-in_err-write_all-3.ensures.0

pub returns-in_err-write_value : goal.returns-in_err-write_value
returns-in_err-write_value g c =
    let s0 = pair_start c.args.symbols.now.sorts c.args.k c.args.pair.now _ _ c.opening.ensures in
    let s2 = next (next s0 c.in_ok-write_all.ensures) (rw c.as_slice.ensures at c.in_ok-write_all-2.ensures) in
    fails _ (next s2 c.in_ok-write_all-3.ensures) c.in_err-write_value.ensures c.from_residual-in_err-write_value.ensures.0

pub returns : goal.returns
returns g c =
    let s0 = pair_start c.args.symbols.now.sorts c.args.k c.args.pair.now _ _ c.opening.ensures in
    let s2 = next (next s0 c.in_ok-write_all.ensures) (rw c.as_slice.ensures at c.in_ok-write_all-2.ensures) in
    last _ _ (next (next s2 c.in_ok-write_all-3.ensures) c.in_ok-write_value.ensures) c.write_all-4.ensures
