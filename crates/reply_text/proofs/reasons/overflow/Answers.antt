-- The reason, and a line feed.
use Rattle.ratio128.specs.Meant.{overflow as overflow_meant}
use Rattle.spec_models.specs.Replies.{overflow}
use Rattle.world_io.proofs.Chains.{next, fails, last}
use Rattle.reply_text.proofs.Overflows.{line_start}
use Rattle.reply_text.proofs.reasons.overflow.Goals as goal

pub returns-in_err-write_overflow : goal.returns-in_err-write_overflow
returns-in_err-write_overflow g c = fails _ (line_start (overflow (overflow_meant c.args.wide)) _) c.in_err-write_overflow.ensures c.from_residual.ensures.0

pub returns : goal.returns
returns g c = last _ _ (next (line_start (overflow (overflow_meant c.args.wide)) _) c.in_ok-write_overflow.ensures) c.write_all.ensures
