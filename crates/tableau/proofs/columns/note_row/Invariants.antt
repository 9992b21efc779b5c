use Rattle.std.proofs.Common.{◌≡◌, ◌<◌, length}
use Rattle.std.specs.Prelude.{vec_len, vec_capacity}
use Rattle.spec_tableaux.specs.SolvedForms.{AllVariables}
use Rattle.tableau.specs.Entries.{entries_of}
use Rattle.tableau.specs.Kept.{HasGrown, IsNoted}
use Rattle.tableau.proofs.Noting.{NotedSoFar}
use Rattle.tableau.proofs.columns.note_row.Given as goal

abbrev pub invariant-loop-e : goal.invariant-loop-e
invariant-loop-e l = record {
  low : AllVariables (λ y. y < length l.columns.items) (entries_of l.rest);
  known : IsNoted l.columns.items l.number (entries_of l.known);
  len : vec_len l.columns ≡ vec_len l.fn.columns;
  capacity : vec_capacity l.columns ≡ vec_capacity l.fn.columns;
  grown : HasGrown (λ k. k ≡ l.fn.number) l.fn.columns.items l.columns.items;
  noted : NotedSoFar l.columns.items l.fn.number (entries_of l.fn.entries) (entries_of l.rest);
}

abbrev pub decreases-loop-e : goal.decreases-loop-e
decreases-loop-e l = length l.rest
