-- The reaches up to here are those of the clauses.
use Rattle.proof_log.specs.Entries.{log_of}
use Rattle.proof_log.proofs.Kept.{AreReached}
use Rattle.proof_log.proofs.keeping.reach_again.Given as goal

abbrev pub invariant-clauses : goal.invariant-clauses
invariant-clauses l = AreReached (log_of l.entries.items) l.stored.items l.k
