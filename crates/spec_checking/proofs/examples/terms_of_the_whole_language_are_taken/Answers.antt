-- A proof with numbers.
use Rattle.spec_checking.proofs.Verdicts.{with_numbers_verdict}
use Rattle.spec_checking.proofs.examples.terms_of_the_whole_language_are_taken.Goals as goal

pub returns : goal.returns
returns c = with_numbers_verdict
