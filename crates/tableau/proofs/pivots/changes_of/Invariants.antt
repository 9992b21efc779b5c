use Rattle.std.proofs.Common.{◌≡◌, ◌<◌, ◌++◌, ◌∷◌, ℕ, Contains, length}
use Rattle.spec_tableaux.specs.Rows.{pivot_row}
use Rattle.spec_tableaux.specs.Numbers.{numbers}
use Rattle.tableau.specs.Entries.{rows_of}
use Rattle.tableau.specs.Pivots.{pivot_meant, changes_meant, changes_in}
use Rattle.tableau.proofs.pivots.changes_of.Given as goal

abbrev pub invariant-loop-k : goal.invariant-loop-k
invariant-loop-k l = record {
  low : (k : ℕ) → Contains l.rest k → k < length l.fn.rows;
  same : changes_meant l.made.items ++ changes_in (pivot_meant l.fn.pivot) (rows_of l.fn.rows) l.rest
      ≡ record { number = l.fn.number; row = pivot_row numbers (pivot_meant l.fn.pivot) } ∷ changes_in (pivot_meant l.fn.pivot) (rows_of l.fn.rows) l.fn.column;
}

abbrev pub decreases-loop-k : goal.decreases-loop-k
decreases-loop-k l = length l.rest
