-- What one disjunction more leads to is right.
use Rattle.std.proofs.Common.{Bool, List, All, get_or, sym, subst}
use Rattle.term_core.specs.declared.ids.TermId.{TermId}
use Rattle.term_core.specs.Tables.{clause_at}
use Rattle.term_clauses.specs.SpokenTerms.{no_id}
use Rattle.term_clauses.specs.Marks.{AreMarksOf}
use Rattle.case_equalities.specs.Finding.{IsDisjunctionIn}
use Rattle.case_equalities.proofs.MarkedLeads.{leads_more}
use Rattle.case_equalities.proofs.finding.leads_of.Goals as goal

pub disjunctions-preserved : goal.disjunctions-preserved
disjunctions-preserved c =
    let t = c.args.table.now in
    let roots = c.args.roots.now in
    let ids = c.deref-disjunction-items.result.now in
    let k = c.disjunctions.disjunction-index in
    let P = IsDisjunctionIn t (clause_at t roots) in
    let each : All P ids = subst (λ (is : List TermId). All P is) (sym c.deref-disjunction-items.ensures.value) c.in_ok-disjunctions.ensures in
    let marks_are : AreMarksOf t roots c.deref.result.now = subst (λ (ms : List Bool). AreMarksOf t roots ms) (sym c.deref.ensures.value) c.in_ok-marks.ensures in
    leads_more t roots c.deref.result.now marks_are c.requires (get_or ids k no_id) c.disjunctions.leads.items c.add_leads.new.leads.items
    (each k no_id c.disjunctions-test.true) c.in_ok-add_leads.ensures c.disjunctions.invariant
