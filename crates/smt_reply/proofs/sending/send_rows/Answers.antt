-- The rows in their parentheses.
use Rattle.world_io.proofs.Chains.{next, fails, last}
use Rattle.smt_reply.proofs.Listed.{list_start}
use Rattle.smt_reply.proofs.sending.send_rows.Goals as goal

pub returns-in_err-write_all : goal.returns-in_err-write_all
returns-in_err-write_all g c = fails _ (list_start c.args.rows.now _) c.in_err-write_all.ensures c.from_residual.ensures.0

pub returns-in_err-write_rows : goal.returns-in_err-write_rows
returns-in_err-write_rows g c = fails _ (next (list_start c.args.rows.now _) c.in_ok-write_all.ensures) c.in_err-write_rows.ensures c.from_residual-in_err-write_rows.ensures.0

pub returns : goal.returns
returns g c = last _ _ (next (next (list_start c.args.rows.now _) c.in_ok-write_all.ensures) c.in_ok-write_rows.ensures) c.write_all-2.ensures
