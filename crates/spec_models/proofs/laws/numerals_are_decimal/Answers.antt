-- Both take one digit after the other.
use Rattle.spec_models.proofs.Numerals.{numeral_decimal}
use Rattle.spec_models.proofs.laws.numerals_are_decimal.Goals as goal

pub returns : goal.returns
returns c = numeral_decimal
