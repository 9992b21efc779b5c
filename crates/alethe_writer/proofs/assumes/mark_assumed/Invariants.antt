-- The assumes of the clauses from here on are marked.
use Rattle.std.proofs.Common.{length}
use Rattle.std.specs.Prelude.{◌≤◌}
use Rattle.spec_sorts.specs.Subterms.{has_term}
use Rattle.alethe_writer.specs.Assumes.{SaysWhether}
use Rattle.alethe_writer.proofs.Assuming.{From}
use Rattle.alethe_writer.proofs.assumes.mark_assumed.Given as goal

abbrev pub invariant-clauses : goal.invariant-clauses
invariant-clauses l = record {
  within : l.number ≤ length l.plan.inferences;
  so_far : SaysWhether l.table (has_term (From l.table l.log l.plan.inferences l.number)) l.marks;
}
