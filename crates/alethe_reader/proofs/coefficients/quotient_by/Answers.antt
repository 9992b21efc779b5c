-- That the divisor is not 0.
use Rattle.spec_arithmetic.proofs.Zero.{not_zero}
use Rattle.ratio128.specs.Meant.{fraction}
use Rattle.alethe_reader.proofs.coefficients.quotient_by.Goals as goal

pub div-requires : goal.div-requires
div-requires c = not_zero (fraction c.args.divisor) c.requires
