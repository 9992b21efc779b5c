-- No fewer variables, and the same else.
use Rattle.std.proofs.Common.{◌≡◌, ◌≤◌, ◌-◌, length}
use Rattle.sat_trail.specs.Trails.{HasSame}
use Rattle.search_loop.proofs.growing.reach.Given as goal

abbrev pub invariant-variables : goal.invariant-variables
invariant-variables l = record {
  same : HasSame l.fn.trail l.trail;
  more : l.fn.trail.vars ≤ l.trail.vars;
  propagated : l.trail.propagated ≡ l.fn.trail.propagated;
}

abbrev pub decreases-variables : goal.decreases-variables
decreases-variables l = length l.table.terms - l.trail.vars
