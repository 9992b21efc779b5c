-- A gap, and a text.
use Rattle.world_io.proofs.Chains.{next, fails, last}
use Rattle.smt_reply.proofs.Listed.{gap_start}
use Rattle.smt_reply.proofs.sending.write_text.Goals as goal

pub returns-in_err-write_all : goal.returns-in_err-write_all
returns-in_err-write_all g c = fails _ (gap_start c.args.k _ c.args.text.now _ c.gap.ensures) c.in_err-write_all.ensures c.from_residual.ensures.0

pub returns : goal.returns
returns g c = last _ _ (next (gap_start c.args.k _ c.args.text.now _ c.gap.ensures) c.in_ok-write_all.ensures) c.write_all-2.ensures
