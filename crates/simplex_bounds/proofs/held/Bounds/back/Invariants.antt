use Rattle.std.proofs.Common.{◌≡◌, ◌≤◌, length, take, vec_capacity}
use Rattle.simplex_bounds.specs.Kept.{LimitsFit}
use Rattle.simplex_bounds.proofs.held.Bounds.back.Given as goal

abbrev pub invariant-loop-self : goal.invariant-loop-self
invariant-loop-self l = record {
  kept : LimitsFit l.self-inside.limits.items l.self-inside.entries.items;
  enough : l.len ≤ length l.self-inside.entries.items;
  same : take l.len l.self-inside.entries.items ≡ take l.len l.initial.self-inside.entries.items;
  variables : length l.self-inside.limits.items ≡ length l.initial.self-inside.limits.items;
  capacity : vec_capacity l.self-inside.entries ≡ vec_capacity l.initial.self-inside.entries;
}

abbrev pub decreases-loop-self : goal.decreases-loop-self
decreases-loop-self l = length l.self-inside.entries.items
