-- A clause is new by what is quiet.
use Rattle.spec_derivations.proofs.Learned.{quiet_is_new}
use Rattle.spec_derivations.proofs.laws.quiet_clause_is_new.Goals as goal

pub returns : goal.returns
returns c = quiet_is_new
