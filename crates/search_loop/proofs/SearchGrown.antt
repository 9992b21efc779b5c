-- That a search stays one for the same terms where the table grows and lemmas come into the log.
use Rattle.std.proofs.Common.{◌≡◌, ℕ, List, [], ◌++◌, length, get_or, map, All, Contains, refl, sym, ap, ◌∙◌, subst, arith}
use Rattle.std.proofs.lemmas.List.{append-nil, length-map, map-append}
use Rattle.std.proofs.lemmas.List.Elements.{All-map, All-contains, Contains-get_or}
use Rattle.spec_sorts.specs.Terms.{Symbol, Term}
use Rattle.spec_sorts.specs.Subsets.{AreAmong, IsClosed}
use Rattle.spec_sorts.specs.WellSorted.{IsWellSorted, IsFormulaOver}
use Rattle.spec_sorts.specs.Literals.{Literal, literal_of}
use Rattle.spec_derivations.specs.Problems.{Problem}
use Rattle.spec_derivations.specs.Orders.{whole_terms}
use Rattle.spec_derivations.specs.Derivations.{Derivation, IsDerivation}
use Rattle.spec_derivations.proofs.Grown.{lemma_more}
use Rattle.spec_derivations.specs.Lemmas.{IsLemma}
use Rattle.term_core.specs.declared.ids.TermId.{TermId}
use Rattle.term_core.specs.Tables.{TableView, declared_in, Extends, term_at, IsIn, AreIn, clause_at, positive_literal}
use Rattle.term_core.specs.Symbols.{SymbolsView}
use Rattle.term_core.proofs.TermsExtend.{IsIn-kept, term_at-kept, clause_at-kept}
use Rattle.term_clauses.proofs.Parts.{formula_kept}
use Rattle.term_clauses.proofs.Speaking.{problem_kept}
use Rattle.clausify.specs.SearchTerms.{AreSearchTerms}
use Rattle.proof_log.specs.Logs.{Logged, inference_of, derivation_in, IsLogOf}
use Rattle.proof_log.specs.Theories.{IsTermIn, IsAtomIn, DerivesLemmas}
use Rattle.proof_log.proofs.Tables.{grown_same}
use Rattle.search_loop.specs.declared.search.Search.{Search}
use Rattle.search_loop.specs.Search.{images, AreAllOf, AreAtomsOf, SearchFits}
use Rattle.search_loop.specs.Rounds.{HasDerived, BeganAfter, HasWholeClauses, IsSearch, Continues}
use Rattle.search_loop.proofs.SearchLists.{of_kept, images_kept}
use Rattle.search_loop.proofs.SearchLogs.{derived_lemmas, whole_on, began_onward}
use Rattle.search_loop.proofs.SearchReady.{clauses_in}
use Rattle.search_loop.proofs.SearchAppends.{appends_logged}
use Rattle.search_loop.proofs.SearchStored.{derives_on}
use Rattle.search_loop.proofs.SearchApart.{apart_on}

-- the terms of a search are those that it speaks of
pub spoken : (t : TableView) (x : Search) (problem : Problem) (earlier : List (List Literal)) → IsSearch t problem earlier x → AreAmong (clause_at t x.terms.items) (whole_terms problem)
spoken t x problem earlier s = s.listed.only

module _ (t u : TableView) (g : Extends t u) (declared : declared_in u ≡ declared_in t) where
  symbols : u.symbols ≡ t.symbols
  symbols = ap (λ (d : SymbolsView). d.symbols) declared

  -- terms and atoms are such there
  pub term_kept : (id : TermId) → IsTermIn t id → IsTermIn u id
  term_kept id h = (
    IsIn-kept t u g id h.0,
    subst (λ (ss : List Symbol). IsWellSorted ss [] (term_at u id)) (sym symbols) (subst (IsWellSorted t.symbols []) (sym (term_at-kept t u g id h.0)) h.1),
  )

  atom_kept : (id : TermId) → IsAtomIn t id → IsAtomIn u id
  atom_kept id h =
      let same : term_at t id ≡ term_at u id = sym (term_at-kept t u g id h.0.0) in (
        formula_kept t u (record { terms = g; declared = declared }) id h.0,
        subst (λ (x : Term). literal_of x ≡ positive_literal x) same h.1,
      )

  atom_back : (id : TermId) → IsIn t id → IsAtomIn u id → IsAtomIn t id
  atom_back id there h =
      let same : term_at u id ≡ term_at t id = term_at-kept t u g id there in (
        (there, subst (λ (ss : List Symbol). IsFormulaOver ss (term_at t id)) symbols (subst (IsFormulaOver u.symbols) same h.0.1)),
        subst (λ (x : Term). literal_of x ≡ positive_literal x) same h.1,
      )

  numbers_in : (ids : List TermId) → All (IsTermIn t) ids → AreIn t ids
  numbers_in ids h k d lt = (h k d lt).0

  pub atoms_kept : (terms atoms : List TermId) → AreAtomsOf t terms atoms → AreAtomsOf u terms atoms
  atoms_kept terms atoms h = record {
    there = λ k d lt. term_kept (get_or terms k d) (h.there k d lt);
    closed = subst IsClosed (sym (clause_at-kept t u g terms (numbers_in terms h.there))) h.closed;
    once = h.once;
    chosen = record {
      each = λ id i a. h.chosen.each id i (atom_back id (All-contains (IsTermIn t) terms id h.there i).0 a);
      among = h.chosen.among;
      only = λ k d lt. atom_kept (get_or atoms k d) (h.chosen.only k d lt);
    };
  }

  pub listed_kept : (problem : Problem) (ids : List TermId) → AreSearchTerms t problem ids → AreSearchTerms u problem ids
  listed_kept problem ids h =
      let same : clause_at t ids ≡ clause_at u ids = sym (clause_at-kept t u g ids (numbers_in ids h.there)) in
      record {
        there = λ k d lt. term_kept (get_or ids k d) (h.there k d lt);
        each = subst (AreAmong (whole_terms problem)) same h.each;
        only = subst (λ (ts : List Term). AreAmong ts (whole_terms problem)) same h.only;
        once = h.once;
      }

  -- with lemmas in the log, and so many literals held by the theory
  module _ (x : Search) (n : ℕ) (log more : List Logged) (last : log ≡ x.log ++ more) (right : IsLogOf u log) (same : derivation_in u x.log ≡ derivation_in t x.log) (r : SearchFits t x) where
    pub ready_grown : SearchFits u (record x { log = log; fed = n })
    ready_grown = record {
      right = right;
      derives = derives_on t u g x.log log more last x.store r.right r.derives;
      known = r.known;
      seen = r.seen;
      implied = r.implied;
      decided = r.decided;
      atoms_are = atoms_kept x.terms.items x.atoms.items r.atoms_are;
      variables = r.variables;
      covered = r.covered;
      waiting = r.waiting;
      sized = r.sized;
      learned = λ k e lt. of_kept t u g (get_or x.budget.learned k e) (r.learned k e lt);
    }

    stored_in : AreAllOf t x.store.clauses
    stored_in k e lt j z small = clauses_in t x r (get_or x.store.clauses k e) (get_or (get_or x.store.clauses k e) j z) (Contains-get_or x.store.clauses k e lt) (Contains-get_or (get_or x.store.clauses k e) j z small)

    is : derivation_in u log ≡ derivation_in t x.log ++ map (inference_of u) more
    is = ap (derivation_in u) last ∙ map-append (inference_of u) x.log more ∙ ap (λ (d : Derivation). d ++ map (inference_of u) more) same

    module _ (lemmas : All (λ (l : Logged). IsLemma (clause_at t x.terms.items) (derivation_in u log) (length x.log) (inference_of u l)) more) (problem : Problem) (earlier : List (List Literal)) (s : IsSearch t problem earlier x) where
      lemmas_of : All (IsLemma (whole_terms problem) (derivation_in t x.log ++ map (inference_of u) more) (length (derivation_in t x.log))) (map (inference_of u) more)
      lemmas_of = subst (λ (e : Derivation). All (IsLemma (whole_terms problem) e (length (derivation_in t x.log))) (map (inference_of u) more)) is
          (subst (λ (n : ℕ). All (IsLemma (whole_terms problem) (derivation_in u log) n) (map (inference_of u) more)) (sym (length-map x.log (inference_of t)))
          (All-map (IsLemma (whole_terms problem) (derivation_in u log) (length x.log)) (inference_of u) more
          (λ k d lt. lemma_more (clause_at t x.terms.items) (whole_terms problem) (spoken t x problem earlier s) (derivation_in u log) (length x.log) (inference_of u (get_or more k d)) (lemmas k d lt))))

      derived : HasDerived problem (derivation_in t x.log ++ map (inference_of u) more) (images t x.store.clauses) earlier (images t x.budget.learned)
      derived = derived_lemmas problem (derivation_in t x.log) (images t x.store.clauses) earlier (images t x.budget.learned) s.derived (map (inference_of u) more) (subst IsDerivation is right.right) lemmas_of

      whole : HasWholeClauses problem (derivation_in t x.log ++ map (inference_of u) more) (images t x.store.clauses)
      whole = subst (HasWholeClauses problem (derivation_in t x.log ++ map (inference_of u) more)) (append-nil (images t x.store.clauses))
          (whole_on problem (derivation_in t x.log) (map (inference_of u) more) (images t x.store.clauses) [] s.whole)

      pub search_grown : IsSearch u problem earlier (record x { log = log; fed = n })
      search_grown =
          record {
            roots = s.roots;
            roots_in = λ k e lt. formula_kept t u (record { terms = g; declared = declared }) (get_or s.roots k e) (s.roots_in k e lt);
            interface = s.interface;
            interface_in = λ k e lt. formula_kept t u (record { terms = g; declared = declared }) (get_or s.interface k e) (s.interface_in k e lt);
            meant = problem_kept t u g s.roots s.interface s.roots_in s.interface_in ∙ s.meant;
            answered = s.answered;
            listed = listed_kept problem x.terms.items s.listed;
            derived = subst (λ (e : Derivation). HasDerived problem e (images u x.store.clauses) earlier (images u x.budget.learned)) (sym is)
                (subst (λ (cs : List (List Literal)). HasDerived problem (derivation_in t x.log ++ map (inference_of u) more) cs earlier (images u x.budget.learned)) (sym (images_kept t u g x.store.clauses stored_in))
                (subst (λ (ls : List (List Literal)). HasDerived problem (derivation_in t x.log ++ map (inference_of u) more) (images t x.store.clauses) earlier ls) (sym (images_kept t u g x.budget.learned r.learned)) derived));
            began = subst (λ (e : Derivation). BeganAfter problem x.since e earlier) (sym is)
                (began_onward problem x.since (derivation_in t x.log) (map (inference_of u) more) earlier s.began);
            whole = subst (λ (e : Derivation). HasWholeClauses problem e (images u x.store.clauses)) (sym is)
                (subst (HasWholeClauses problem (derivation_in t x.log ++ map (inference_of u) more)) (sym (images_kept t u g x.store.clauses stored_in)) whole);
          }

    pub continues_grown : All (λ (l : Logged). IsLemma (clause_at t x.terms.items) (derivation_in u log) (length x.log) (inference_of u l)) more → Continues t u x (record x { log = log; fed = n })
    continues_grown lemmas = record {
      table = g;
      declared = declared;
      limit = refl;
      more = [];
      learned = sym (append-nil x.budget.learned);
      vars = refl;
      terms = refl;
      appended = appends_logged x (record x { log = log; fed = n }) (more, last) (record { clauses = refl; steps = refl }) refl refl;
      search = search_grown lemmas;
      apart = λ problem earlier s a. apart_on t u x (record x { log = log; fed = n }) (λ c i. subst (λ (cs : List (List Literal)). Contains cs c) (sym (images_kept t u g x.store.clauses stored_in)) i) problem earlier a (images_kept t u g x.budget.learned r.learned);
    }

  -- with terms alone
  module _ (x : Search) (right : IsLogOf u x.log) (same : derivation_in u x.log ≡ derivation_in t x.log) (r : SearchFits t x) where
    pub ready_wider : SearchFits u x
    ready_wider = ready_grown x x.fed x.log [] (sym (append-nil x.log)) right same r

    pub continues_wider : Continues t u x x
    continues_wider = continues_grown x x.fed x.log [] (sym (append-nil x.log)) right same r (λ k e lt. absurd (omega (arith, lt)))

-- where lemmas over its terms came into the log, a search goes on
module _ (t u : TableView) (x : Search) (r : SearchFits t x) (log : List Logged) (came : DerivesLemmas (clause_at t x.terms.items) (record { table = t; log = x.log }) (record { table = u; log = log })) where
  same_before : derivation_in u x.log ≡ derivation_in t x.log
  same_before = grown_same t u x.log r.right came.table

  pub continues_derived : Continues t u x (record x { log = log })
  continues_derived = continues_grown t u came.table came.declared x x.fed log came.more came.log came.right same_before r came.lemmas

  pub ready_derived : SearchFits u (record x { log = log })
  ready_derived = ready_grown t u came.table came.declared x x.fed log came.more came.log came.right same_before r
