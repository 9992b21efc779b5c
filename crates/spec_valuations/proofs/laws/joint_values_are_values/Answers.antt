-- By the lemma of these values.
use Rattle.spec_valuations.proofs.Joint.{is_valuation}
use Rattle.spec_valuations.proofs.laws.joint_values_are_values.Goals as goal

pub returns : goal.returns
returns c = is_valuation
