-- It is the same from here.
use Rattle.std.proofs.Common.{◌≡◌, drop}
use Rattle.proof_log.specs.Reaches.{past_term, past_from}
use Rattle.proof_log.proofs.reaching.greatest.Given as goal

abbrev pub invariant-terms : goal.invariant-terms
invariant-terms l = past_from (past_term l.most) (drop l.id-index l.terms) ≡ past_from (past_term l.fn.least) l.terms
