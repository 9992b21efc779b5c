-- The law, by its lemma.
use Rattle.clause_store.proofs.Reasons.{known_with}
use Rattle.clause_store.proofs.laws.clauses_stay_known.Goals as goal

pub returns : goal.returns
returns c = known_with
