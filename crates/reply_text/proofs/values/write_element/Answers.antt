-- The number of an element, and the name of its sort.
use Rattle.world_io.proofs.Chains.{next, fails, last}
use Rattle.reply_text.proofs.Numbers.{element_start}
use Rattle.reply_text.proofs.values.write_element.Goals as goal

pub returns-in_err-write_numeral : goal.returns-in_err-write_numeral
returns-in_err-write_numeral g c = fails _ (element_start c.args.sort.now c.args.k _) c.in_err-write_numeral.ensures c.from_residual.ensures.0

pub returns-in_err-name : goal.returns-in_err-name
returns-in_err-name g c = fails _ (next (element_start c.args.sort.now c.args.k _) c.in_ok-write_numeral.ensures) c.in_err-name.ensures c.from_residual-in_err-name.ensures.0

pub returns : goal.returns
returns g c = last _ _ (next (next (element_start c.args.sort.now c.args.k _) c.in_ok-write_numeral.ensures) c.in_ok-name.ensures) c.write_all.ensures
