-- By the lemma of these values.
use Rattle.spec_valuations.proofs.Meeting.{value_is}
use Rattle.spec_valuations.proofs.laws.values_are_met.Goals as goal

pub returns : goal.returns
returns c = value_is
