-- That the literal is read so.
use Rattle.std.proofs.Common.{sym}
use Rattle.ratio128.specs.Meant.{fraction}
use Rattle.alethe_reader.proofs.CoefficientTexts.{literal_given, literal_malformed}
use Rattle.alethe_reader.proofs.coefficients.literal_coefficient.Goals as goal

pub returns-in-Ok : goal.returns-in-Ok
returns-in-Ok c = literal_given c.args.digits.now (fraction c.in-Ok.number) (sym c.in-Ok.ensures)

pub returns-in-Err : goal.returns-in-Err
returns-in-Err c = literal_malformed c.args.digits.now _ (sym c.in-Err.ensures)
