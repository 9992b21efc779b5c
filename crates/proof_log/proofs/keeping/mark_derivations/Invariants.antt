-- What marked clauses from here on rest on is marked.
use Rattle.std.proofs.Common.{◌-◌}
use Rattle.proof_log.specs.Entries.{log_of}
use Rattle.proof_log.proofs.Marks.{IsGoingDown}
use Rattle.proof_log.proofs.keeping.mark_derivations.Given as goal

abbrev pub invariant-clauses : goal.invariant-clauses
invariant-clauses l = IsGoingDown (log_of l.entries.items) l.fn.marks.items l.marks.items l.from l.k

abbrev pub decreases-clauses : goal.decreases-clauses
decreases-clauses l = l.k - l.from
