-- By the truth of the equality, which says both.
use Rattle.spec_valuations.proofs.Numbered.{sides_agree}
use Rattle.spec_valuations.proofs.laws.sides_of_equalities_agree.Goals as goal

pub returns : goal.returns
returns c = sides_agree
