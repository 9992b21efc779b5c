-- One term more.
use Rattle.std.proofs.Common.{sym, ap, subst}
use Rattle.std.proofs.lemmas.List.Elements.{All-nil}
use Rattle.term_core.specs.Tables.{clause_at}
use Rattle.proof_log.specs.Logs.{IsFormulaIn, AreFormulasIn}
use Rattle.term_clauses.proofs.Arguments.{Widens-self, Widens-trans}
use Rattle.term_clauses.proofs.Parts.{formula_kept}
use Rattle.simplex_explain.proofs.Terms.{reason_formula, terms_more}
use Rattle.simplex_explain.proofs.putting.negations.Goals as goal

pub loop-reason-init : goal.loop-reason-init
loop-reason-init c = record {
  wider = Widens-self c.args.table.now;
  formulas = subst (AreFormulasIn c.args.table.now) (sym c.new-terms.ensures.items) (All-nil (IsFormulaIn c.args.table.now));
  means = ap (clause_at c.args.table.now) c.new-terms.ensures.items;
}

pub negation-requires : goal.negation-requires
negation-requires c =
    formula_kept c.args.table.now c.loop-reason.table c.loop-reason.invariant.wider c.reason-item.result.literal.term
    (reason_formula c.args.table.now c.args.reasons.now c.loop-reason.reason-index c.reason-item.result c.loop-reason-test.true c.reason-item.is c.requires)

pub returns-in_err-term-clause-wider : goal.returns-in_err-term-clause-wider
returns-in_err-term-clause-wider c = Widens-trans c.args.table.now c.loop-reason.table c.negation.new.table c.loop-reason.invariant.wider c.negation.ensures.wider

pub loop-reason-preserved : goal.loop-reason-preserved
loop-reason-preserved c =
    let v = c.loop-reason.invariant in
    let more = terms_more c.args.table.now c.loop-reason.table c.negation.new.table v.wider c.negation.ensures.wider c.args.reasons.now c.loop-reason.reason-index c.reason-item.result c.loop-reason-test.true
    c.reason-item.is c.requires c.loop-reason.terms.items c.push.new.self.items c.in_ok-term.term c.in_ok-push.ensures.items v.formulas v.means c.in_ok-term.ensures.means in
    record { wider = Widens-trans c.args.table.now c.loop-reason.table c.negation.new.table v.wider c.negation.ensures.wider; formulas = more.0; means = more.1 }
