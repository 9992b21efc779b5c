-- Each is made of words.
use Rattle.spec_proof_texts.proofs.Given.{numbers_given}
use Rattle.spec_proof_texts.proofs.laws.numbers_are_given.Goals as goal

pub returns : goal.returns
returns c = numbers_given
