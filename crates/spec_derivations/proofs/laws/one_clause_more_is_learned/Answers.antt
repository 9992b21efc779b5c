-- What is derived stays so with further steps.
use Rattle.spec_derivations.proofs.Onward.{one_more}
use Rattle.spec_derivations.proofs.laws.one_clause_more_is_learned.Goals as goal

pub returns : goal.returns
returns c = one_more
