-- A number below 0 in its parentheses.
use Rattle.std.proofs.Common.{◌∙◌, sym}
use Rattle.ratio128.specs.Meant.{fraction}
use Rattle.world_io.proofs.Chains.{next, fails, last}
use Rattle.reply_text.proofs.Numbers.{negative_start}
use Rattle.reply_text.proofs.values.write_whole.Goals as goal

pub returns-in_err-write_numeral : goal.returns-in_err-write_numeral
returns-in_err-write_numeral g c =
    let s0 = negative_start (fraction c.args.q).num _ c.args.before.now c.args.after.now _ (sym c.is_below.ensures ∙ c.if-is_below.true) c.numerator.ensures in
    fails _ (next s0 c.in_ok-write_all.ensures) c.in_err-write_numeral.ensures c.from_residual-in_err-write_numeral.ensures.0

pub returns-then-is_below : goal.returns-then-is_below
returns-then-is_below g c =
    let s0 = negative_start (fraction c.args.q).num _ c.args.before.now c.args.after.now _ (sym c.is_below.ensures ∙ c.if-is_below.true) c.numerator.ensures in
    last _ _ (next (next s0 c.in_ok-write_all.ensures) c.in_ok-write_numeral.ensures) c.write_all-then-is_below.ensures
