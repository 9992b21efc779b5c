-- The premises that a derivation has are the log's.
use Rattle.proof_log.proofs.Implied.{rests_there, earlier_in}
use Rattle.proof_log.proofs.laws.clauses_rest_on_what_they_depend_on.Goals as goal

pub returns : goal.returns
returns c t log s m h lt depends = rests_there log t (earlier_in log t h) s.0 m.0 lt depends
