-- All from the place on up to here are false, but for that one.
use Rattle.std.proofs.Common.{◌-◌}
use Rattle.clause_store.specs.Watching.{AreFalseBetween}
use Rattle.clause_store.proofs.literals.open_between.Given as goal

abbrev pub invariant-places : goal.invariant-places
invariant-places l = AreFalseBetween l.trail.literals l.clause l.from l.at l.other

abbrev pub decreases-places : goal.decreases-places
decreases-places l = l.to - l.at
