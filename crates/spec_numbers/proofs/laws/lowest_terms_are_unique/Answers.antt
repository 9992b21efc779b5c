use Rattle.spec_numbers.proofs.Lowest.{lowest_unique}
use Rattle.spec_numbers.proofs.laws.lowest_terms_are_unique.Goals as goal

pub returns : goal.returns
returns c x y r q e = lowest_unique x y r q e
