-- The clause of the two decisions is new.
use Rattle.spec_derivations.proofs.Eight.{not_both_is_new}
use Rattle.spec_derivations.proofs.laws.first_of_eight_is_new.Goals as goal

pub returns : goal.returns
returns c = not_both_is_new
