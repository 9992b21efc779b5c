use Rattle.std.proofs.Common.{◌<◌, length}
use Rattle.spec_tableaux.specs.SolvedForms.{AllVariables}
use Rattle.tableau.specs.Entries.{entries_of, rows_of}
use Rattle.tableau.proofs.Flattened.{SumSoFar}
use Rattle.tableau.proofs.flattening.flattened.Given as goal

abbrev pub invariant-loop-g : goal.invariant-loop-g
invariant-loop-g l = record {
  low : AllVariables (λ y. y < length l.fn.places) (entries_of l.rest);
  so_far : SumSoFar (rows_of l.fn.rows) (entries_of l.fn.entries) (entries_of l.total.items) (entries_of l.rest);
}

abbrev pub decreases-loop-g : goal.decreases-loop-g
decreases-loop-g l = length l.rest
