-- A gap, and a symbol.
use Rattle.world_io.proofs.Chains.{next, fails, last}
use Rattle.spec_text.specs.Printed.{printed_symbol}
use Rattle.smt_reply.proofs.Listed.{gap_start}
use Rattle.smt_reply.proofs.sending.write_name.Goals as goal

pub returns-in_err-write_all : goal.returns-in_err-write_all
returns-in_err-write_all g c = fails _ (gap_start c.args.k _ (printed_symbol c.args.symbol.now) _ c.gap.ensures) c.in_err-write_all.ensures c.from_residual.ensures.0

pub returns : goal.returns
returns g c = last _ _ (next (gap_start c.args.k _ (printed_symbol c.args.symbol.now) _ c.gap.ensures) c.in_ok-write_all.ensures) c.name.ensures
