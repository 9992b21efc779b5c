-- By its digits.
use Rattle.std.proofs.Common.{◌∷◌, ap}
use Rattle.ratio128.specs.Meant.{fraction}
use Rattle.world_io.proofs.Sending.{sends_same}
use Rattle.alethe_writer.specs.Digits.{Writes}
use Rattle.alethe_writer.proofs.Decimals.{decimal_text}
use Rattle.alethe_writer.proofs.numbers.write_literal.Goals as goal

pub returns-in-Some : goal.returns-in-Some
returns-in-Some g c =
    let w : Writes (fraction c.args.q) c.in-Some.decimal = c.in-Some.ensures in
    sends_same _ _ c.write_decimal.result _ _ (ap (λ ds. 32 ∷ ds) (decimal_text (fraction c.args.q) c.in-Some.decimal w)) c.write_decimal.ensures
