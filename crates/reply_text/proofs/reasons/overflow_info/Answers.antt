-- The reason after its keyword.
use Rattle.ratio128.specs.Meant.{overflow as overflow_meant}
use Rattle.spec_models.specs.Replies.{overflow}
use Rattle.world_io.proofs.Chains.{next, fails, last}
use Rattle.reply_text.proofs.Overflows.{info_start}
use Rattle.reply_text.proofs.reasons.overflow_info.Goals as goal

pub returns-in_err-write_all : goal.returns-in_err-write_all
returns-in_err-write_all g c = fails _ (info_start (overflow (overflow_meant c.args.wide)) _) c.in_err-write_all.ensures c.from_residual.ensures.0

pub returns-in_err-write_overflow : goal.returns-in_err-write_overflow
returns-in_err-write_overflow g c = fails _ (next (info_start (overflow (overflow_meant c.args.wide)) _) c.in_ok-write_all.ensures) c.in_err-write_overflow.ensures c.from_residual-in_err-write_overflow.ensures.0

pub returns : goal.returns
returns g c =
    let s1 = next (info_start (overflow (overflow_meant c.args.wide)) _) c.in_ok-write_all.ensures in
    last _ _ (next s1 c.in_ok-write_overflow.ensures) c.write_all-2.ensures
