use Rattle.std.proofs.Common.{◌≡◌, ◌+◌, ◌-◌, ◌≤◌, List, length, vec_len, vec_capacity}
use Rattle.explain_forest.specs.declared.types.Edge.{Edge}
use Rattle.explain_forest.specs.Kept.{ArraysShow}
use Rattle.explain_forest.proofs.arrays.grow.Given as goal

abbrev pub invariant-loop : goal.invariant-loop
invariant-loop l = record {
  up_room : vec_len l.parents + (l.more - l.counter) ≤ vec_capacity l.parents;
  over_room : vec_len l.stamps + (l.more - l.counter) ≤ vec_capacity l.stamps;
  terms : length l.parents.items ≡ length l.fn.parents.items + l.counter;
  shows : (edges : List Edge) → ArraysShow l.fn.parents.items l.fn.stamps.items edges → ArraysShow l.parents.items l.stamps.items edges;
}
