-- By steps that state the base clauses, and one that resolves them with those that were learned.
use Rattle.spec_derivations.proofs.Propagated.{propagated}
use Rattle.spec_derivations.proofs.laws.propagated_clauses_can_be_learned.Goals as goal

pub returns : goal.returns
returns c = propagated
