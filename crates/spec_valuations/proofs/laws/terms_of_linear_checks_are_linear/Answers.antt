-- By what arguments, equalities and order facts have.
use Rattle.spec_valuations.proofs.Linear.{whole_linear}
use Rattle.spec_valuations.proofs.laws.terms_of_linear_checks_are_linear.Goals as goal

pub returns : goal.returns
returns c = whole_linear
