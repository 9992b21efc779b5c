-- What is before the place has passed.
use Rattle.std.proofs.Common.{◌≡◌, ◌-◌, length, Contains}
use Rattle.clause_literals.specs.Literals.{lit_complement}
use Rattle.clause_store.specs.Entries.{bare}
use Rattle.clause_store.specs.Watching.{IsWatchedWith, AreKnownIn, PropagatesPart, HavePassed}
use Rattle.clause_store.proofs.watched.Watched.walk_list.Given as goal

abbrev pub invariant-places : goal.invariant-places
invariant-places l = record {
  watched : IsWatchedWith l.self l.f l.list.items;
  known : AreKnownIn l.self l.trail.vars;
  fails : Contains l.trail.literals (lit_complement l.f);
  entries : l.self.entries.items ≡ l.fn.self.entries.items;
  goes : PropagatesPart (bare l.fn.self.entries.items) (length l.fn.self.pairs.items) l.fn.self.pairs.items l.self.pairs.items l.fn.trail l.trail;
  passed : HavePassed l.self.pairs.items l.list.items l.at l.trail.literals l.f;
}

abbrev pub decreases-places : goal.decreases-places
decreases-places l = length l.list.items - l.at
