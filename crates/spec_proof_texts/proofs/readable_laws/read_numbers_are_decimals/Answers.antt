-- By the decimals of the lexicon.
use Rattle.spec_proof_texts.proofs.ReadNumbers.{read_decimal}
use Rattle.spec_proof_texts.proofs.readable_laws.read_numbers_are_decimals.Goals as goal

pub returns : goal.returns
returns c = read_decimal c.literals_are_decimals.ensures.decimal
