-- The terms of the negations up to here.
use Rattle.std.proofs.Common.{◌≡◌, take}
use Rattle.term_core.specs.Tables.{clause_at}
use Rattle.proof_log.specs.Logs.{AreFormulasIn}
use Rattle.term_clauses.specs.Stating.{Widens}
use Rattle.simplex_explain.specs.Reasons.{denials_meant}
use Rattle.simplex_explain.proofs.putting.negations.Given as goal

abbrev pub invariant-loop-reason : goal.invariant-loop-reason
invariant-loop-reason l = record {
  wider : Widens l.fn.table l.table;
  formulas : AreFormulasIn l.table l.terms.items;
  means : clause_at l.table l.terms.items ≡ denials_meant l.fn.table (take l.reason-index l.reasons);
}
