-- By the entries of its form's variables.
use Rattle.spec_causes.proofs.Owned.{has_value, one_value}
use Rattle.spec_causes.proofs.laws.terms_have_one_value.Goals as goal

pub returns-clause-some : goal.returns-clause-some
returns-clause-some c = has_value

pub returns-clause-one : goal.returns-clause-one
returns-clause-one c = one_value
