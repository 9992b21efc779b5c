-- What a saturated search shows of its problem, whatever theory it has: the truths of its literals meet the clauses.
use Rattle.std.proofs.Common.{◌≡◌, ℕ, true, List, [], ◌++◌, get_or, map, All, Contains, sym, ap, ◌∙◌, subst}
use Rattle.std.specs.List.{list_any}
use Rattle.std.proofs.lemmas.List.{append-nil}
use Rattle.std.proofs.lemmas.List.Elements.{All-append, All-map, All-contains, Contains-get_or, All-nil}
use Rattle.spec_text.proofs.Members.{to_image, from_image}
use Rattle.spec_numbers.specs.Fractions.{Fraction}
use Rattle.spec_sorts.specs.Terms.{Truth, Term, sort_of}
use Rattle.spec_sorts.specs.Values.{Interpretation, Interprets, truth}
use Rattle.spec_sorts.specs.TermValues.{value_at}
use Rattle.spec_sorts.specs.WellSorted.{IsFormulaOver}
use Rattle.spec_sorts.specs.Literals.{Clause, Literal, literal_of, literals_of}
use Rattle.spec_rules.specs.Truths.{Truths, term_true_by}
use Rattle.spec_equality.specs.Congruence.{signed_literal}
use Rattle.spec_derivations.specs.Problems.{Problem, terms_of_problem, known_terms}
use Rattle.spec_derivations.specs.Orders.{whole_clauses}
use Rattle.spec_valuations.specs.Tables.{Valuation, IsModelBy}
use Rattle.term_core.specs.declared.ids.TermId.{TermId}
use Rattle.term_core.specs.declared.ids.Lit.{Lit}
use Rattle.term_core.specs.Tables.{TableView, AreDifferent, term_at, literal_at, clause_at, positive_literal}
use Rattle.clause_literals.specs.Literals.{IsConsistent, AreLiteralsIn, LiteralsMean}
use Rattle.proof_log.specs.Logs.{AreFormulasIn}
use Rattle.proof_log.specs.Theories.{TheoryView, IsTermIn, IsAtomIn}
use Rattle.term_walks.specs.declared.values.Interp.{Interp}
use Rattle.term_walks.specs.Valuations.{HasSymbolTables}
use Rattle.search_model.specs.Models.{truths_of, IsModelOf, IsModel}
use Rattle.search_loop.specs.declared.search.Search.{Search}
use Rattle.search_loop.specs.Rounds.{IsSearch}
use Rattle.search_loop.specs.Asking.{HasSaturated}
use Rattle.search_loop.proofs.SearchReady.{clauses_in, held_in}
use Rattle.solve_core.proofs.SearchTruths.{truth_is, clause_met}

-- tables by values under which the terms of a problem are true are a model's
pub has_model : (t : TableView) (ls : List Lit) (ids : List TermId) (classes : List ℕ) (numbers : List Fraction) (values : Valuation) (problem : Problem) (interp : Interp)
    → IsModelOf t ls ids classes numbers interp → (i : Interpretation) × HasSymbolTables t interp i
    → ((i : Interpretation) → HasSymbolTables t interp i → IsModelBy i values t.symbols (clause_at t ids))
    → ((i : Interpretation) → IsModelBy i values t.symbols (clause_at t ids) → Interprets i t.symbols)
    → ((i : Interpretation) → IsModelBy i values t.symbols (clause_at t ids) → All (λ u. value_at i [] u ≡ truth true) (terms_of_problem problem))
    → IsModel t (terms_of_problem problem) interp
has_model t ls ids classes numbers values problem interp m interpretation by interprets all = record {
  tables = m.tables;
  named = m.named;
  interpretation = interpretation;
  interprets = λ i represents. interprets i (by i represents);
  holds = λ i represents. all i (by i represents);
}

-- nothing is assumed
pub nothing_assumed : (t : TableView) (x : Search) (problem : Problem) (earlier : List (List Literal)) (s : IsSearch t problem earlier x) (truths : Truths) → All (λ u. term_true_by truths u ≡ true) problem.assumed
nothing_assumed t x problem earlier s truths = subst (λ (p : Problem). All (λ u. term_true_by truths u ≡ true) p.assumed) s.meant (All-nil (λ u. term_true_by truths u ≡ true))

module _ (t : TableView) (differ : AreDifferent t.terms) (x : Search) (v : TheoryView) (agreed : Type 0) (h : HasSaturated t x v agreed) (consistent : IsConsistent x.trail.literals)
    (problem : Problem) (earlier : List (List Literal)) (s : IsSearch t problem earlier x) where
  abbrev ids : List TermId
  ids = x.terms.items

  abbrev terms : List Term
  terms = clause_at t x.terms.items

  abbrev held : List Literal
  held = map (literal_at t) x.trail.literals

  abbrev truths : Truths
  truths = truths_of t x.trail.literals

  pub all_held : AreLiteralsIn t x.trail.literals
  all_held k d lt = held_in t x h.ready (get_or x.trail.literals k d) (Contains-get_or x.trail.literals k d lt)

  -- the number of a term of sort Bool that is no negation is an atom's
  number_atom : (id : TermId) (u : Term) → Contains ids id → term_at t id ≡ u → sort_of u ≡ Truth → literal_of u ≡ signed_literal u true → IsAtomIn t id
  number_atom id u i e sort bare =
      let there = All-contains (IsTermIn t) ids id h.ready.atoms_are.there i in (
        (there.0, record { term = there.1; sort = ap sort_of e ∙ sort }),
        subst (λ (w : Term). literal_of w ≡ positive_literal w) (sym e) bare,
      )

  -- such a term is held with its truth
  pub atom_held : (u : Term) → Contains terms u → sort_of u ≡ Truth → literal_of u ≡ signed_literal u true → Contains held (signed_literal u (truths u))
  atom_held u i sort bare =
      let n = from_image (term_at t) ids u i in
      let a = h.assigned n.0 (h.ready.atoms_are.chosen.each n.0 n.1 (number_atom n.0 u n.1 n.2 sort bare)) in
      let term : term_at t a.0.term ≡ u = ap (term_at t) a.2 ∙ n.2 in
      let sign : truths u ≡ a.0.positive = ap truths (sym term) ∙ truth_is t x.trail.literals differ all_held consistent a.0 a.1 in
      subst (Contains held) (λ k. record { atom = term k; positive = sym sign k }) (to_image (literal_at t) x.trail.literals a.0 a.1)

  -- each clause that a search begins with is met
  pub met : (c : Clause) → Contains (whole_clauses problem) c → list_any (term_true_by truths) c ≡ true
  met c i =
      let d = from_image (map (literal_at t)) x.store.clauses (literals_of c) (s.whole.base c i) in
      let means : LiteralsMean t d.0 c = record { same = d.2; there = λ k e lt. clauses_in t x h.ready d.0 (get_or d.0 k e) d.1 (Contains-get_or d.0 k e lt) } in
      clause_met t x.trail.literals differ all_held consistent c d.0 means (h.satisfied d.0 d.1)

  -- the terms are formulas, and so are the interface equalities
  clause_formulas : (ids : List TermId) → AreFormulasIn t ids → All (IsFormulaOver t.symbols) (clause_at t ids)
  clause_formulas ids ids_in = All-map (IsFormulaOver t.symbols) (term_at t) ids (λ k d lt. (ids_in k d lt).1)

  pub formulas : All (IsFormulaOver t.symbols) (known_terms problem)
  formulas = subst (λ (p : Problem). All (IsFormulaOver t.symbols) (known_terms p)) s.meant
      (All-append (IsFormulaOver t.symbols) (clause_at t s.interface) (clause_at t s.roots ++ []) (clause_formulas s.interface s.interface_in)
      (subst (All (IsFormulaOver t.symbols)) (sym (append-nil (clause_at t s.roots))) (clause_formulas s.roots s.roots_in)))
