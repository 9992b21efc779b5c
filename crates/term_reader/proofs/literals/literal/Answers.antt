use Rattle.std.proofs.Common.{sym}
use Rattle.ratio128.specs.Meant.{fraction}
use Rattle.term_reader.proofs.Digits.{literal_wide, literal_fits}
use Rattle.term_reader.proofs.literals.literal.Goals as goal

pub returns-in-Some : goal.returns-in-Some
returns-in-Some c = sym (literal_fits c.args.at c.args.digits.now c.whole_digits.result.now c.point_digits.result.now (fraction c.in-Some.number) c.whole_digits.ensures c.point_digits.ensures c.in-Some.ensures.0 c.in-Some.ensures.1)

pub returns-in-None : goal.returns-in-None
returns-in-None c = rw c.fault_at.ensures (sym (literal_wide c.args.at c.args.digits.now c.whole_digits.result.now c.point_digits.result.now c.whole_digits.ensures c.point_digits.ensures c.in-None.ensures))
