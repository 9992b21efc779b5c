-- The names in their parentheses.
use Rattle.std.proofs.Common.{map}
use Rattle.world_io.proofs.Chains.{next, fails, last}
use Rattle.spec_text.specs.Printed.{printed_symbol}
use Rattle.smt_reply.proofs.Listed.{list_start}
use Rattle.smt_reply.proofs.sending.send_names.Goals as goal

pub returns-in_err-write_all : goal.returns-in_err-write_all
returns-in_err-write_all g c = fails _ (list_start (map printed_symbol c.args.names.now) _) c.in_err-write_all.ensures c.from_residual.ensures.0

pub returns-in_err-write_names : goal.returns-in_err-write_names
returns-in_err-write_names g c =
    let s0 = list_start (map printed_symbol c.args.names.now) _ in
    fails _ (next s0 c.in_ok-write_all.ensures) c.in_err-write_names.ensures c.from_residual-in_err-write_names.ensures.0

pub returns : goal.returns
returns g c =
    let s0 = list_start (map printed_symbol c.args.names.now) _ in
    last _ _ (next (next s0 c.in_ok-write_all.ensures) c.in_ok-write_names.ensures) c.write_all-2.ensures
