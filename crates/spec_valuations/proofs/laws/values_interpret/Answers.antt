-- By the lemma of these values.
use Rattle.spec_valuations.proofs.Interpreting.{interprets}
use Rattle.spec_valuations.proofs.laws.values_interpret.Goals as goal

pub returns : goal.returns
returns c = interprets
