use Rattle.std.proofs.Common.{◌<◌, ℕ, length}
use Rattle.tableau.specs.Entries.{rows_of}
use Rattle.tableau.specs.Pivots.{changes_meant, AllNumbers}
use Rattle.tableau.specs.Kept.{HasGrown, RowsAreNoted, AreOverColumns}
use Rattle.tableau.proofs.Noting.{ChangesSoFar}
use Rattle.tableau.proofs.columns.note_changes.Given as goal

abbrev pub invariant-loop-change : goal.invariant-loop-change
invariant-loop-change l = record {
  low : AreOverColumns (length l.columns.items) (changes_meant l.rest);
  known : RowsAreNoted l.columns.items (rows_of l.rows);
  within : AllNumbers (λ k. k < length l.rows) (changes_meant l.rest);
  numbered : (n : ℕ) → AllNumbers (λ k. k < n) (changes_meant l.fn.made) → AllNumbers (λ k. k < n) (changes_meant l.rest);
  grown : (n : ℕ) → AllNumbers (λ k. k < n) (changes_meant l.fn.made) → HasGrown (λ k. k < n) l.fn.columns.items l.columns.items;
  noted : ChangesSoFar l.columns.items (changes_meant l.fn.made) (changes_meant l.rest);
}

abbrev pub decreases-loop-change : goal.decreases-loop-change
decreases-loop-change l = length l.rest
