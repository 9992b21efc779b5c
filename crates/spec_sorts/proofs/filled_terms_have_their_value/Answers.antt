-- That arguments for parameters have their values.
use Rattle.spec_sorts.proofs.Heads.{filled_value}
use Rattle.spec_sorts.proofs.filled_terms_have_their_value.Goals as goal

pub returns : goal.returns
returns c = filled_value
