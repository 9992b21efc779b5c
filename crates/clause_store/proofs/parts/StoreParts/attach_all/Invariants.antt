-- One clause after the other is looked at.
use Rattle.std.proofs.Common.{◌-◌, length}
use Rattle.clause_store.specs.QuietPairs.{IsAtWork, WorksOn}
use Rattle.clause_store.proofs.parts.StoreParts.attach_all.Given as goal

abbrev pub invariant-clauses : goal.invariant-clauses
invariant-clauses l = record {
  work : IsAtWork l.self l.trail;
  goes : WorksOn l.fn.self l.self l.fn.trail l.trail;
}

abbrev pub decreases-clauses : goal.decreases-clauses
decreases-clauses l = length l.self.watched.entries.items - l.self.attached
