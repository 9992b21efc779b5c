-- A whole number, or its quotient.
use Rattle.ratio128.specs.Meant.{fraction}
use Rattle.world_io.proofs.Chains.{next, fails, last}
use Rattle.world_io.proofs.Sending.{sends_same}
use Rattle.reply_text.proofs.Numbers.{whole_text, quotient_start}
use Rattle.reply_text.proofs.values.write_ratio.Goals as goal

pub returns-then-den-eq1 : goal.returns-then-den-eq1
returns-then-den-eq1 g c = sends_same _ _ c.write_whole.result _ _ (whole_text (fraction c.args.q) _ c.denominator-den.ensures c.if-den-eq1.true) c.write_whole.ensures

pub returns-in_err-write_whole : goal.returns-in_err-write_whole
returns-in_err-write_whole g c =
    fails _ (quotient_start (fraction c.args.q) _ _ c.denominator-den.ensures c.if-den-eq1.false) c.in_err-write_whole.ensures c.from_residual.ensures.0

pub returns : goal.returns
returns g c =
    last _ _ (next (quotient_start (fraction c.args.q) _ _ c.denominator-den.ensures c.if-den-eq1.false) c.in_ok-write_whole.ensures) c.write_numeral.ensures
