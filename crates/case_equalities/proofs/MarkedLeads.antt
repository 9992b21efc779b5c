-- Leads that name marked terms alone.
use Rattle.std.proofs.Common.{◌≡◌, Bool, List, [], ◌∷◌, ◌++◌, get_or, All, sym, ap, ◌∙◌, subst, append_assoc}
use Rattle.std.proofs.lemmas.List.{append-nil}
use Rattle.std.proofs.lemmas.List.Elements.{All-nil, All-push, All-append, All-weaker, All-contains}
use Rattle.spec_sorts.specs.WellSorted.{IsWellSorted}
use Rattle.term_core.specs.declared.ids.TermId.{TermId}
use Rattle.term_core.specs.Tables.{TableView, term_at, clause_at}
use Rattle.proof_log.specs.Logs.{IsFormulaIn, AreFormulasIn}
use Rattle.term_clauses.specs.Marks.{marked, AreMarksOf}
use Rattle.term_clauses.proofs.Marked.{in_marked}
use Rattle.term_clauses.proofs.Bases.{marked_sorted}
use Rattle.case_equalities.specs.declared.lead.Chain.{Chain}
use Rattle.case_equalities.specs.declared.lead.Lead.{Lead}
use Rattle.case_equalities.specs.Leads.{asserted_below, IsOneOf, IsChainOver, IsAssertedDisjunction, IsLeadOver}
use Rattle.case_equalities.specs.Finding.{IsMarkedIn, IsMarkedFormula, IsMarkedChain, IsMarkedLead, IsDisjunctionIn, AddsLeads}

module _ (t : TableView) (marks : List Bool) (disjunction : TermId) where
  -- none came
  pub adds_none : (leads : List Lead) → AddsLeads t marks disjunction leads leads
  adds_none leads = record {
    more = [];
    is = sym (append-nil leads);
    marked = All-nil (IsMarkedLead t marks);
    of_it = All-nil (λ (x : Lead). x.disjunction ≡ disjunction);
  }

  -- one came
  pub adds_one : (old new : List Lead) (x : Lead) → new ≡ old ++ x ∷ [] → IsMarkedLead t marks x → x.disjunction ≡ disjunction → AddsLeads t marks disjunction old new
  adds_one old new x e m of_it = record {
    more = x ∷ [];
    is = e;
    marked = All-push (IsMarkedLead t marks) [] x (All-nil (IsMarkedLead t marks)) m;
    of_it = All-push (λ (y : Lead). y.disjunction ≡ disjunction) [] x (All-nil (λ (y : Lead). y.disjunction ≡ disjunction)) of_it;
  }

  -- some came, then others
  pub adds_both : (old now new : List Lead) → AddsLeads t marks disjunction old now → AddsLeads t marks disjunction now new → AddsLeads t marks disjunction old new
  adds_both old now new f g = record {
    more = f.more ++ g.more;
    is = g.is ∙ ap (λ (ls : List Lead). ls ++ g.more) f.is ∙ append_assoc old f.more g.more;
    marked = All-append (IsMarkedLead t marks) f.more g.more f.marked g.marked;
    of_it = All-append (λ (x : Lead). x.disjunction ≡ disjunction) f.more g.more f.of_it g.of_it;
  }

module _ (t : TableView) (roots : List TermId) (marks : List Bool) (m : AreMarksOf t roots marks) (formulas : AreFormulasIn t roots) where
  -- a marked number is that of a subterm
  one_of : (id : TermId) → IsMarkedIn t marks id → IsOneOf t (asserted_below t roots) id
  one_of id h =
      let there = in_marked marks t.terms m.short id.0 h.1 in
      ((h.0, All-contains (IsWellSorted t.symbols []) (marked marks t.terms) (term_at t id) (marked_sorted t roots marks formulas m) there), m.only (term_at t id) there)

  formula_of : (id : TermId) → IsMarkedFormula t marks id → IsFormulaIn t id
  formula_of id h = (h.0.0, record { term = (one_of id h.0).0.1; sort = h.1 })

  chain_of : (c : Chain) → IsMarkedChain t marks c → IsChainOver t (asserted_below t roots) c
  chain_of c h = record {
    case = one_of c.case h.case.0;
    formula = formula_of c.case h.case;
    equalities = All-weaker (IsMarkedFormula t marks) (IsOneOf t (asserted_below t roots)) (λ id f. one_of id f.0) c.equalities.items h.equalities;
    formulas = All-weaker (IsMarkedFormula t marks) (IsFormulaIn t) formula_of c.equalities.items h.equalities;
  }

  lead_of : (x : Lead) → IsMarkedLead t marks x → IsAssertedDisjunction (clause_at t roots) (term_at t x.disjunction) → IsLeadOver t roots x
  lead_of x h asserted = record {
    disjunction = one_of x.disjunction h.disjunction.0;
    formula = formula_of x.disjunction h.disjunction;
    asserted = asserted;
    left = one_of x.left h.elements.one;
    right = one_of x.right h.elements.other;
    sort = h.elements.sort;
    left_sort = h.elements.left_sort;
    right_sort = h.elements.right_sort;
    chains = All-weaker (IsMarkedChain t marks) (IsChainOver t (asserted_below t roots)) chain_of x.chains.items h.chains;
  }

  -- so leads that came of an asserted disjunction are right
  pub leads_more : (disjunction : TermId) (old new : List Lead) → IsDisjunctionIn t (clause_at t roots) disjunction → AddsLeads t marks disjunction old new → All (IsLeadOver t roots) old → All (IsLeadOver t roots) new
  leads_more disjunction old new h a before =
      let more : All (IsLeadOver t roots) a.more = λ k d lt.
      lead_of (get_or a.more k d) (a.marked k d lt) (subst (λ (id : TermId). IsAssertedDisjunction (clause_at t roots) (term_at t id)) (sym (a.of_it k d lt)) h.1)
      in subst (λ (ls : List Lead). All (IsLeadOver t roots) ls) (sym a.is) (All-append (IsLeadOver t roots) old a.more before more)
