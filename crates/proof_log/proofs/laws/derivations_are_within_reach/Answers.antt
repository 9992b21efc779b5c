-- By induction over the derivation.
use Rattle.proof_log.proofs.Scopes.{terms_within, assumes_within}
use Rattle.proof_log.proofs.laws.derivations_are_within_reach.Goals as goal

pub returns-clause-terms : goal.returns-clause-terms
returns-clause-terms c log s m id earlier lt rests has = terms_within log earlier s m id lt rests has

pub returns-clause-assumes : goal.returns-clause-assumes
returns-clause-assumes c log s m id earlier lt rests is = assumes_within log earlier s m id lt rests is
