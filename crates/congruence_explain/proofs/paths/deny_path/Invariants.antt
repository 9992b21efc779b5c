-- The clause and the needed edges up to here.
use Rattle.std.proofs.Common.{◌≡◌, map, take}
use Rattle.congruence_explain.specs.Claims.{denied_step}
use Rattle.congruence_explain.specs.Steps.{AddsEdges, edges_on}
use Rattle.congruence_explain.proofs.paths.deny_path.Given as goal

abbrev pub invariant-path : goal.invariant-path
invariant-path l = record {
  clause : l.clause.items ≡ map (denied_step l.truths) (take l.s-index l.path);
  needed : AddsEdges l.fn.needed.keys (edges_on (take l.s-index l.path)) l.needed.keys;
}
