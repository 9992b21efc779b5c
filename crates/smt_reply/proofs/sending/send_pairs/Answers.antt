-- The pairs in their parentheses.
use Rattle.std.proofs.Common.{map}
use Rattle.world_io.proofs.Chains.{next, fails, last}
use Rattle.smt_reply.specs.Pairs.{pair_text}
use Rattle.smt_reply.proofs.Listed.{list_start}
use Rattle.smt_reply.proofs.sending.send_pairs.Goals as goal

pub returns-in_err-write_all : goal.returns-in_err-write_all
returns-in_err-write_all g c = fails _ (list_start (map (pair_text c.args.symbols.now.sorts) c.args.pairs.now) _) c.in_err-write_all.ensures c.from_residual.ensures.0

pub returns-in_err-write_pairs : goal.returns-in_err-write_pairs
returns-in_err-write_pairs g c =
    let s0 = list_start (map (pair_text c.args.symbols.now.sorts) c.args.pairs.now) _ in
    fails _ (next s0 c.in_ok-write_all.ensures) c.in_err-write_pairs.ensures c.from_residual-in_err-write_pairs.ensures.0

pub returns : goal.returns
returns g c =
    let s0 = list_start (map (pair_text c.args.symbols.now.sorts) c.args.pairs.now) _ in
    last _ _ (next (next s0 c.in_ok-write_all.ensures) c.in_ok-write_pairs.ensures) c.write_all-2.ensures
