-- Each term has its value, and an overflow of one is a cause.
use Rattle.std.proofs.Common.{◌≡◌, get_or, subst, arith}
use Rattle.spec_causes.specs.Shared.{IsSharedAmong, OverflowsTerm}
use Rattle.spec_causes.specs.Causes.{valuing}
use Rattle.ratio128.specs.declared.wide.Wide.{Wide}
use Rattle.term_core.specs.declared.ids.TermId.{TermId}
use Rattle.term_core.specs.Tables.{term_at}
use Rattle.sat_budget.specs.Budgets.{StopsBy}
use Rattle.proof_log.specs.Theories.{terms_watched}
use Rattle.simplex_check.specs.Assignments.{IsBasisOf}
use Rattle.simplex_atoms.specs.Watching.{OnAtomOverflow}
use Rattle.simplex.specs.Coming.{term_tableau_of}
use Rattle.simplex.proofs.Judging.{overflowed}
use Rattle.simplex.proofs.SharedTerms.{next_value, all_values, term_among}
use Rattle.simplex.proofs.simplex.Simplex.shared_values.Goals as goal

pub returns-in-Err-Wide-clause-stops : goal.returns-in-Err-Wide-clause-stops
returns-in-Err-Wide-clause-stops c =
    let v = c.args.self.now in
    let t = c.args.table.now in
    let ts = terms_watched t v.theory in
    let none : TermId = record { 0 = 0 } in
    let u = term_at t (get_or c.args.shared.now c.terms.id-index none) in
    overflowed t ts v c.in-Err-Wide.wide c.stop_of.result
    (valuing u (term_among (IsSharedAmong ts) t c.args.shared.now c.terms.id-index none c.terms-test.true c.requires.shared)
    (subst (OnAtomOverflow (OverflowsTerm (term_tableau_of t v) u)) c.in-Err-Wide.field-0-is c.in-Err-Wide.ensures.wide))
    (subst (λ (w : Wide). StopsBy (λ s. (s.wide ≡ w) × IsBasisOf v.assignment s.basis) c.stop_of.result) c.in-Err-Wide.wide-is c.stop_of.ensures)

pub terms-preserved : goal.terms-preserved
terms-preserved c =
    let v = c.args.self.now in
    let t = c.args.table.now in
    let none : TermId = record { 0 = 0 } in
    next_value t (term_tableau_of t v) c.terms.values.items c.push.new.self.items c.in-Ok.value c.args.shared.now c.terms.id-index none c.terms-test.true c.terms.invariant
    c.in-Ok-push.ensures.items c.in-Ok.ensures.value

pub returns-clause-ok : goal.returns-clause-ok
returns-clause-ok c =
    let t = c.args.table.now in
    all_values t (term_tableau_of t c.args.self.now) c.terms.values.items c.args.shared.now c.terms.id-index (omega (arith, c.terms-test.false)) c.terms.invariant
