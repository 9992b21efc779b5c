use Rattle.std.proofs.Common.{◌≡◌, ◌≤◌, length, take, vec_len, vec_capacity}
use Rattle.explain_forest.specs.Kept.{ArraysShow}
use Rattle.explain_forest.proofs.arrays.cut.Given as goal

abbrev pub invariant-edges : goal.invariant-edges
invariant-edges l = record {
  floor : l.floor ≤ vec_len l.edges;
  front : take l.floor l.edges.items ≡ take l.floor l.fn.edges.items;
  room : vec_capacity l.edges ≡ vec_capacity l.fn.edges;
  terms : length l.parents ≡ length l.fn.parents;
  shows : ArraysShow l.parents l.stamps l.edges.items;
}

abbrev pub decreases-edges : goal.decreases-edges
decreases-edges l = vec_len l.edges
