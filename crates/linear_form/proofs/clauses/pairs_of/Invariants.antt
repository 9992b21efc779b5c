-- The pairs that are made, before those of what is left.
use Rattle.std.proofs.Common.{◌≡◌, drop}
use Rattle.spec_arithmetic.specs.Contradictions.{paired}
use Rattle.term_core.specs.Tables.{clause_at}
use Rattle.linear_form.specs.Coefficients.{coefficients_meant}
use Rattle.linear_form.specs.Clauses.{pairs_meant, HavePairsIn, option_front}
use Rattle.linear_form.proofs.clauses.pairs_of.Given as goal

abbrev pub invariant-literals : goal.invariant-literals
invariant-literals l = record {
  means : paired (clause_at l.table l.clause) (coefficients_meant l.coeffs)
      ≡ option_front (pairs_meant l.table l.pairs.items) (paired (clause_at l.table (drop l.at l.clause)) (coefficients_meant (drop l.at l.coeffs)));
  there : HavePairsIn l.table l.pairs.items;
}
