use Rattle.std.proofs.Common.{◌≡◌, ◌<◌, length}
use Rattle.tableau.specs.Entries.{rows_of}
use Rattle.tableau.specs.Pivots.{changes_meant, with_changes, AllNumbers}
use Rattle.tableau.proofs.pivots.put_changes.Given as goal

abbrev pub invariant-loop-change : goal.invariant-loop-change
invariant-loop-change l = record {
  low : AllNumbers (λ k. k < length l.rows.items) (changes_meant l.left.items);
  same : with_changes (rows_of l.rows.items) (changes_meant l.left.items) ≡ with_changes (rows_of l.fn.rows.items) (changes_meant l.fn.made.items);
}

abbrev pub decreases-loop-change : goal.decreases-loop-change
decreases-loop-change l = length l.left.items
