-- What was seen is a prefix of the trail.
use Rattle.std.proofs.Common.{◌≡◌, ◌≤◌, ◌-◌, take, length}
use Rattle.clause_store.proofs.parts.see.Given as goal

abbrev pub invariant-literals : goal.invariant-literals
invariant-literals l = record {
  within : l.trail.propagated ≤ length l.seen.items;
  most : length l.seen.items ≤ length l.trail.literals;
  same : l.seen.items ≡ take (length l.seen.items) l.trail.literals;
}

abbrev pub decreases-literals : goal.decreases-literals
decreases-literals l = length l.trail.literals - length l.seen.items
