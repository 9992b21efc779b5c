use Rattle.std.proofs.Common.{◌-◌, length}
use Rattle.spec_text.specs.Places.{IsPlaceOf}
use Rattle.spec_text.specs.Readings.{kept}
use Rattle.smt_sexpr.specs.Limited.{whole_of}
use Rattle.assertion_stack.specs.Stacks.{over_table}
use Rattle.script_standing.proofs.Loading.{Loading}
use Rattle.script_standing.proofs.load.reaches_check.Given as goal

abbrev pub invariant-commands : goal.invariant-commands
invariant-commands l = record {
  place : IsPlaceOf (kept (whole_of l.text)) l.place;
  loading : Loading (kept (whole_of l.text)) l.fn.at (over_table l.table l.stack) l.place.offset l.left;
}

abbrev pub decreases-commands : goal.decreases-commands
decreases-commands l = length (kept (whole_of l.text)) - l.place.offset
