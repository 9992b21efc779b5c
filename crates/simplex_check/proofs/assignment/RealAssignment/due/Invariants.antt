use Rattle.std.proofs.Common.{◌≡◌, ◌≤◌, ◌<◌, ℕ, true, get_or}
use Rattle.simplex_bounds.specs.declared.bounds.Bound.{Bound}
use Rattle.simplex_check.specs.Suspects.{is_among}
use Rattle.simplex_check.proofs.assignment.RealAssignment.due.Given as goal

abbrev pub invariant-loop-place : goal.invariant-loop-place
invariant-loop-place l = record {
  due : (k : ℕ) → l.from ≤ k → k < l.place → (none : Bound) → is_among (get_or l.bounds.held k none).variable l.due ≡ true;
  known : (z : ℕ) → is_among z l.due ≡ true → z < l.bounds.variables;
}
