-- By the lemma of these values.
use Rattle.spec_valuations.proofs.Choices.{chooses}
use Rattle.spec_valuations.proofs.laws.choices_have_their_branches_value.Goals as goal

pub returns : goal.returns
returns c = chooses
