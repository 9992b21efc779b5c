-- Each symbol has one table, and so each term one value.
use Rattle.spec_models.proofs.Agreement.{terms_agree}
use Rattle.spec_models.proofs.laws.interpretations_of_one_text_agree.Goals as goal

pub returns : goal.returns
returns c = terms_agree
