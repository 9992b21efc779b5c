-- The asserted expressions up to here came.
use Rattle.std.proofs.Common.{map, take}
use Rattle.assertion_stack.specs.Assertions.{Written}
use Rattle.script_standing.specs.Standings.{AddsExpressions}
use Rattle.script_standing.proofs.standing.add_asserted.Given as goal

abbrev pub invariant-asserted : goal.invariant-asserted
invariant-asserted l = record {
  so_far : AddsExpressions l.fn.expressions.items (take l.k l.ids) (take l.k (map (λ (w : Written). w.at) l.stack.assertions.written)) l.expressions.items;
}
