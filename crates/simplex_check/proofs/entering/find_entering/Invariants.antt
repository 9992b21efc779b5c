use Rattle.std.proofs.Common.{length}
use Rattle.spec_tableaux.specs.Ranges as ranges
use Rattle.spec_tableaux.specs.Numbers.{numbers}
use Rattle.tableau.specs.Entries.{entries_of}
use Rattle.spec_tableaux.specs.Points.{deltas, point_in}
use Rattle.simplex_bounds.specs.Held.{ranges_in}
use Rattle.simplex_check.proofs.FirstOfRow.{Passed}
use Rattle.simplex_check.proofs.entering.find_entering.Given as goal

abbrev pub invariant-loop-e : goal.invariant-loop-e
invariant-loop-e l =
    Passed numbers (λ y. ranges.moves_by deltas (ranges_in l.bounds.held y) (point_in l.assignment.values y) l.up) (entries_of l.fn.entries) (entries_of l.rest)

abbrev pub decreases-loop-e : goal.decreases-loop-e
decreases-loop-e l = length l.rest
