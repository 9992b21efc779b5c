-- One literal more.
use Rattle.std.proofs.Common.{◌∷◌, [], sym, ap, subst}
use Rattle.std.proofs.lemmas.List.Elements.{All-nil}
use Rattle.term_core.specs.Tables.{clause_at}
use Rattle.proof_log.specs.Logs.{IsFormulaIn, AreFormulasIn}
use Rattle.term_clauses.proofs.Arguments.{Widens-self, Widens-trans}
use Rattle.congruence_explain.proofs.Terms.{claim_kept}
use Rattle.congruence_explain.proofs.Logging.{terms_more}
use Rattle.congruence_explain.proofs.putting.terms_of.Goals as goal

pub loop-signed_claim-init : goal.loop-signed_claim-init
loop-signed_claim-init c = record {
  wider = Widens-self c.args.table.now;
  formulas = subst (AreFormulasIn c.args.table.now) (sym c.new-terms.ensures.items) (All-nil (IsFormulaIn c.args.table.now));
  means = ap (clause_at c.args.table.now) c.new-terms.ensures.items;
}

pub term_of-requires : goal.term_of-requires
term_of-requires c = claim_kept c.args.table.now c.loop-signed_claim.table c.loop-signed_claim.invariant.wider _ (c.requires c.loop-signed_claim.signed_claim-index _ c.loop-signed_claim-test.true)

pub returns-in_err-term-clause-wider : goal.returns-in_err-term-clause-wider
returns-in_err-term-clause-wider c = Widens-trans c.args.table.now c.loop-signed_claim.table c.term_of.new.table c.loop-signed_claim.invariant.wider c.term_of.ensures.wider

pub loop-signed_claim-preserved : goal.loop-signed_claim-preserved
loop-signed_claim-preserved c =
    let v = c.loop-signed_claim.invariant in
    let more = terms_more c.args.table.now c.loop-signed_claim.table c.term_of.new.table v.wider c.term_of.ensures.wider c.args.clause.now c.loop-signed_claim.signed_claim-index _ c.loop-signed_claim-test.true c.requires
    c.loop-signed_claim.terms.items c.push.new.self.items c.in_ok-term.term c.in_ok-push.ensures.items v.formulas v.means c.in_ok-term.ensures.means.0 (λ i. c.in_ok-term.ensures.means.1 i ∷ []) in
    record { wider = Widens-trans c.args.table.now c.loop-signed_claim.table c.term_of.new.table v.wider c.term_of.ensures.wider; formulas = more.0; means = more.1 }
