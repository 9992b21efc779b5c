-- That the literal is read so.
use Rattle.std.proofs.Common.{sym}
use Rattle.ratio128.specs.Meant.{fraction}
use Rattle.model_read.proofs.NumberTexts.{literal_within, literal_is, literal_beyond}
use Rattle.model_read.proofs.numbers.literal.Goals as goal

pub returns-in-Ok : goal.returns-in-Ok
returns-in-Ok c = (
  literal_within c.args.digits.now (fraction c.in-Ok.number) (sym c.in-Ok.ensures),
  literal_is c.args.digits.now (fraction c.in-Ok.number) (sym c.in-Ok.ensures),
)

pub returns-in-Err : goal.returns-in-Err
returns-in-Err c = literal_beyond c.args.digits.now _ (sym c.in-Err.ensures)
