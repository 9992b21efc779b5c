-- By the digits of literals.
use Rattle.spec_proof_texts.proofs.Written.{numeral_written, decimal_written}
use Rattle.spec_proof_texts.proofs.laws.literals_are_decimals.Goals as goal

pub returns-clause-numeral : goal.returns-clause-numeral
returns-clause-numeral c = numeral_written

pub returns-clause-decimal : goal.returns-clause-decimal
returns-clause-decimal c = decimal_written
