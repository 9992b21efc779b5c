-- The assumed expressions up to here came.
use Rattle.std.proofs.Common.{take}
use Rattle.script_standing.specs.Standings.{AddsExpressions}
use Rattle.script_standing.proofs.standing.add_assumed.Given as goal

abbrev pub invariant-assumed : goal.invariant-assumed
invariant-assumed l = record {
  so_far : AddsExpressions l.fn.expressions.items (take l.k l.assumed.ids.items) (take l.k l.assumed.offsets.items) l.expressions.items;
}
