-- The operation, and its operands one after the other.
use Rattle.ratio128.specs.Meant.{overflow}
use Rattle.world_io.proofs.Chains.{next, fails, last}
use Rattle.reply_text.proofs.Overflows.{overflow_start}
use Rattle.reply_text.proofs.reasons.write_overflow.Goals as goal

pub returns-in_err-write_pieces : goal.returns-in_err-write_pieces
returns-in_err-write_pieces g c = fails _ (overflow_start (overflow c.args.wide) _ _ c.letters.ensures) c.in_err-write_pieces.ensures c.from_residual.ensures.0

pub returns-in_err-write_ratio : goal.returns-in_err-write_ratio
returns-in_err-write_ratio g c =
    let s0 = overflow_start (overflow c.args.wide) _ _ c.letters.ensures in
    fails _ (next s0 c.in_ok-write_pieces.ensures) c.in_err-write_ratio.ensures c.from_residual-in_err-write_ratio.ensures.0

pub returns-in_err-write_all : goal.returns-in_err-write_all
returns-in_err-write_all g c =
    let s0 = overflow_start (overflow c.args.wide) _ _ c.letters.ensures in
    fails _ (next (next s0 c.in_ok-write_pieces.ensures) c.in_ok-write_ratio.ensures) c.in_err-write_all.ensures c.from_residual-in_err-write_all.ensures.0

pub returns-in_err-write_ratio-2 : goal.returns-in_err-write_ratio-2
returns-in_err-write_ratio-2 g c =
    let s0 = overflow_start (overflow c.args.wide) _ _ c.letters.ensures in
    let s3 = next (next (next s0 c.in_ok-write_pieces.ensures) c.in_ok-write_ratio.ensures) c.in_ok-write_all.ensures in
    fails _ s3 c.in_err-write_ratio-2.ensures c.from_residual-in_err-write_ratio-2.ensures.0

pub returns : goal.returns
returns g c =
    let s0 = overflow_start (overflow c.args.wide) _ _ c.letters.ensures in
    let s3 = next (next (next s0 c.in_ok-write_pieces.ensures) c.in_ok-write_ratio.ensures) c.in_ok-write_all.ensures in
    last _ _ (next s3 c.in_ok-write_ratio-2.ensures) c.write_all-2.ensures
