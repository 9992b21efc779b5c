-- Both lists as one.
use Rattle.spec_derivations.proofs.Onward.{serves}
use Rattle.spec_derivations.proofs.laws.learned_clauses_serve_the_next_check.Goals as goal

pub returns : goal.returns
returns c = serves
