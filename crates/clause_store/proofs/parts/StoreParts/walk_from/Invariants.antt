-- The clauses are quiet by the literals that are done.
use Rattle.std.proofs.Common.{◌≡◌, ◌≤◌, ◌-◌, length, take}
use Rattle.clause_store.specs.Watching.{AreQuietPairs}
use Rattle.clause_store.specs.QuietPairs.{IsAtWork, WorksOn}
use Rattle.clause_store.proofs.parts.StoreParts.walk_from.Given as goal

abbrev pub invariant-literals : goal.invariant-literals
invariant-literals l = record {
  work : IsAtWork l.self l.trail;
  all : l.self.attached ≡ length l.self.watched.entries.items;
  there : l.done ≤ length l.trail.literals;
  goes : WorksOn l.fn.self l.self l.fn.trail l.trail;
  were_quiet : AreQuietPairs l.self.attached l.self.watched.pairs.items (take l.done l.trail.literals) l.trail.literals;
}

abbrev pub decreases-literals : goal.decreases-literals
decreases-literals l = l.trail.vars - l.done
