-- The terms left are of the table, and the sum is that of those before.
use Rattle.std.proofs.Common.{length}
use Rattle.simplex_bounds.specs.Deltas.{pair_of}
use Rattle.simplex.specs.Values.{variables_meant, AreTermsIn}
use Rattle.simplex.specs.Coming.{term_tableau_of}
use Rattle.simplex.proofs.SharedTerms.{Left}
use Rattle.simplex.proofs.simplex.Simplex.sum_of.Given as goal

abbrev pub invariant-loop-x : goal.invariant-loop-x
invariant-loop-x l = record {
  known : AreTermsIn l.table l.rest;
  left : Left (term_tableau_of l.table l.self) (variables_meant l.table l.fn.variables) (variables_meant l.table l.rest) (pair_of l.sum);
}

abbrev pub decreases-loop-x : goal.decreases-loop-x
decreases-loop-x l = length l.rest
