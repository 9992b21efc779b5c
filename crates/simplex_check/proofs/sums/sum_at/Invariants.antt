use Rattle.std.proofs.Common.{◌<◌, length, map}
use Rattle.spec_tableaux.specs.SolvedForms.{AllVariables}
use Rattle.tableau.specs.Entries.{entries_of}
use Rattle.simplex_bounds.specs.Deltas.{pair_of}
use Rattle.spec_tableaux.specs.Points.{point_in}
use Rattle.simplex_check.proofs.Summing.{Summed}
use Rattle.simplex_check.proofs.sums.sum_at.Given as goal

abbrev pub invariant-loop-e : goal.invariant-loop-e
invariant-loop-e l = record {
  summed : Summed (point_in (map pair_of l.values)) (entries_of l.fn.entries) (entries_of l.rest) (pair_of l.sum);
  known : AllVariables (λ y. y < length l.values) (entries_of l.rest);
}

abbrev pub decreases-loop-e : goal.decreases-loop-e
decreases-loop-e l = length l.rest
