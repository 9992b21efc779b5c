-- The terms of the literals up to here.
use Rattle.std.proofs.Common.{◌≡◌, map, take}
use Rattle.term_core.specs.Tables.{clause_at}
use Rattle.proof_log.specs.Logs.{AreFormulasIn}
use Rattle.term_clauses.specs.Stating.{Widens}
use Rattle.congruence_explain.specs.Claims.{claim_as_term}
use Rattle.congruence_explain.proofs.putting.terms_of.Given as goal

abbrev pub invariant-loop-signed_claim : goal.invariant-loop-signed_claim
invariant-loop-signed_claim l = record {
  wider : Widens l.fn.table l.table;
  formulas : AreFormulasIn l.table l.terms.items;
  means : clause_at l.table l.terms.items ≡ map (claim_as_term l.fn.table) (take l.signed_claim-index l.clause);
}
