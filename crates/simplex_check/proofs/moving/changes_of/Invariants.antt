use Rattle.std.proofs.Common.{◌≡◌, ◌<◌, ℕ, true, map, slice_index_or}
use Rattle.spec_tableaux.specs.LeastVariable.{moved}
use Rattle.tableau.specs.Views.{row_at}
use Rattle.simplex_bounds.specs.Deltas.{pair_of}
use Rattle.spec_tableaux.specs.Points.{deltas, point_in}
use Rattle.simplex_check.specs.Changes.{ChangesAreBelow, ComeTo, is_changed}
use Rattle.simplex_check.proofs.moving.changes_of.Given as goal

abbrev pub invariant-loop-row : goal.invariant-loop-row
invariant-loop-row l = record {
  known : ChangesAreBelow l.tableau.variables l.changes.items;
  come : ComeTo (moved deltas l.tableau.rows l.first.variable (pair_of l.d) (point_in (map pair_of l.values))) l.changes.items;
  first : is_changed l.first.variable l.changes.items ≡ true;
  passed : (j : ℕ) → j < l.row-index → is_changed (row_at l.tableau.rows (slice_index_or l.column j 0)).basic l.changes.items ≡ true;
}
