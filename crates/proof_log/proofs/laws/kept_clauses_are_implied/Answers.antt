-- All that it rests on was there before the level.
use Rattle.proof_log.proofs.Implied.{kept_implied}
use Rattle.proof_log.proofs.laws.kept_clauses_are_implied.Goals as goal

pub returns : goal.returns
returns c = kept_implied c.derivations_are_sound.ensures
