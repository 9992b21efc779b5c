-- That the test is the definition's.
use Rattle.ratio128.specs.Meant.{fraction}
use Rattle.alethe_reader.proofs.CoefficientTexts.{zero_tested}
use Rattle.alethe_reader.proofs.coefficients.is_zero.Goals as goal

pub returns : goal.returns
returns c = zero_tested c.is_zero.result (fraction c.args.number) (c.ratios_are_fractions.ensures.reduced c.args.number) c.is_zero.ensures.0 c.is_zero.ensures.1
