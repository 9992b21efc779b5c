-- That a search begins with equalities of elements as facts: conjuncts of asserted terms hold, so a clause from one of their disjunctions gives its equality.
use Rattle.std.proofs.Common.{◌≡◌, Bool, true, false, cond, List, [], ◌∷◌, ◌++◌, length, map, All, Contains, inl, inr, refl, sym, ap, ◌∙◌, subst, arith, length-append}
use Rattle.std.specs.Prelude.{flat_map}
use Rattle.std.proofs.lemmas.List.{get_or_append_left}
use Rattle.std.proofs.lemmas.List.Elements.{All-nil, All-weaker, All-contains, All-contains_itself, Contains-append_left, Contains-append_right}
use Rattle.spec_text.proofs.Members.{to_image, from_image, in_flat, only, first, later, cases}
use Rattle.spec_sorts.specs.Terms.{Sort, Truth, And, Or, Equal, Symbol, Term, terms_of, list_of, of, pair, negated, sort_of, head_takes, all_same}
use Rattle.spec_sorts.specs.Subterms.{subterms_of}
use Rattle.spec_sorts.specs.Subsets.{AreAmong, arguments_of}
use Rattle.spec_sorts.specs.WellSorted.{IsWellSorted}
use Rattle.spec_sorts.specs.Literals.{Clause, Literal, complement, literal_of, literals_of}
use Rattle.spec_arithmetic.specs.Numbers.{IsLinear}
use Rattle.spec_sorts.proofs.General.{list_of-terms_of}
use Rattle.spec_sorts.proofs.LeastSubterms.{least_of}
use Rattle.spec_proofs.specs.Resolution.{Derives, unit}
use Rattle.spec_rules.specs.Schemes.{Scheme, schemes, clauses_by, and_pos, is_formula_of}
use Rattle.spec_derivations.specs.Problems.{Problem, subterms_in}
use Rattle.spec_derivations.specs.Examples.{speaking}
use Rattle.spec_derivations.specs.Base.{clauses_of, choice_clauses, defining_clauses}
use Rattle.spec_derivations.specs.Orders.{order_clauses, whole_terms, whole_clauses_of, whole_clauses}
use Rattle.spec_derivations.specs.Lemmas.{IsLemma}
use Rattle.spec_derivations.proofs.Below.{head_fits}
use Rattle.spec_derivations.proofs.Grown.{lemma_more, more_subterms}
use Rattle.spec_derivations.proofs.SearchTerms.{subterms_spoken, known_spoken}
use Rattle.spec_derivations.proofs.OrderedTerms.{whole_closed, searched_whole}
use Rattle.spec_interfaces.specs.Interfaces.{IsElementEquality, IsInterfaceEquality, StandsApart}
use Rattle.term_core.specs.declared.ids.TermId.{TermId}
use Rattle.term_core.specs.declared.ids.Lit.{Lit}
use Rattle.term_core.specs.Tables.{TableView, AreDifferent, IsIn, AreIn, term_at, literal_at, clause_at}
use Rattle.clause_literals.specs.Literals.{lit_complement}
use Rattle.clause_literals.proofs.TableLiterals.{literals_apart}
use Rattle.term_core.proofs.TermsExtend.{AreIn-kept, term_at-kept, clause_at-kept}
use Rattle.term_clauses.specs.Stating.{Widens}
use Rattle.term_clauses.proofs.Parts.{formula_kept}
use Rattle.proof_log.specs.Logs.{Logged, no_logged, named, logged_at, IsFormulaIn, AreFormulasIn, inference_of, derivation_in}
use Rattle.proof_log.specs.declared.premises.StepId.{StepId}
use Rattle.proof_log.specs.Clashes.{IsClash}
use Rattle.proof_log.specs.Theories.{IsTermIn, Derived, DerivesLemmas, derived}
use Rattle.case_equalities.specs.declared.equalities.CaseEquality.{CaseEquality}
use Rattle.case_equalities.proofs.Leading.{disjunction_there}
use Rattle.case_equalities.specs.Leads.{IsConjunctOf, itself, argument, IsAssertedDisjunction, asserted_below, IsCaseEquality}
use Rattle.search_loop.specs.Answered.{AreAnswered}
use Rattle.search_loop.specs.declared.search.Search.{Search}
use Rattle.search_loop.specs.Waiting.{AreOfAtoms}
use Rattle.search_loop.specs.Search.{images}
use Rattle.search_loop.specs.Asking.{state}
use Rattle.search_loop.specs.Growing.{IsBegun, HasGrown, goes_on}
use Rattle.search_loop.specs.Rounds.{IsSearch, IsFact, HasKept}
use Rattle.solve_core.specs.Beginning.{IsBegunFor, IsOverAtomsOf, IsStored}
use Rattle.solve_core.specs.Relating.{HasRelated}
use Rattle.solve_core.proofs.SearchRelated.{related_lemmas, begun_related}
use Rattle.solve_core.proofs.SearchAsked.{known_whole, equality_linear}

-- the literal of a term as it is
abbrev yes : Term → Literal
yes t = record { atom = t; positive = true }

-- what literals are of a conjunction, a disjunction and an equality, and of their negations
conjunction_denied : (us : List Term) → complement (literal_of (negated (of And us))) ≡ literal_of (of And us)
unfolding literal_of
conjunction_denied us = refl

disjunction_denied : (us : List Term) → complement (literal_of (negated (of Or us))) ≡ literal_of (of Or us)
unfolding literal_of
disjunction_denied us = refl

disjunction_alone : (us : List Term) → literal_of (of Or us) ≡ yes (of Or us)
unfolding literal_of
disjunction_alone us = refl

disjunction_truth : (us : List Term) → sort_of (of Or us) ≡ Truth
unfolding sort_of
disjunction_truth us = refl

equality_alone : (s t : Term) → literal_of (pair Equal s t) ≡ yes (pair Equal s t)
unfolding literal_of
equality_alone s t = refl

-- a clause of two literals gives the second where the first is false
by_two : (cs : List (List Literal)) (one two : Literal) → Contains cs (one ∷ two ∷ []) → Derives complement cs [] (complement one) → Derives complement cs [] two
by_two cs one two i h = unit (one ∷ two ∷ []) two i (later one (two ∷ []) two (first two [])) (λ m j ne. elim (cases one (two ∷ []) m j) [
  | inl e ↦ subst (λ (l : Literal). Derives complement cs [] (complement l)) e h
  | inr k ↦ absurd (ne (sym (only two m k)))
])

module _ (symbols : List Symbol) (p : Problem) (sorted : (u : Term) → Contains (whole_terms p) u → IsWellSorted symbols [] u) (cs : List (List Literal))
    (base : (c : Clause) → Contains (whole_clauses p) c → Contains cs (literals_of c)) where
  abbrev Holds : Term → Type 0
  Holds t = Derives complement cs [] (literal_of t)

  -- asserted terms hold
  alone_holds : (t : Term) → Contains p.asserted t → Holds t
  alone_holds t i =
      let there = Contains-append_left (map (λ (u : Term). u ∷ []) p.asserted) (flat_map whole_clauses_of (whole_terms p)) (t ∷ []) (to_image (λ (u : Term). u ∷ []) p.asserted t i) in
      unit (literal_of t ∷ []) (literal_of t) (base (t ∷ []) there) (first (literal_of t) []) (λ m j ne. absurd (ne (sym (only (literal_of t) m j))))

  -- a conjunction's arguments are formulas
  conjunction_formula : (us : List Term) → Contains (whole_terms p) (of And us) → is_formula_of And (of And us) ≡ true
  conjunction_formula us i = go us (sorted (of And us) i)
    where
      takes : (ts : List Sort) → head_takes [] And ts ≡ true → all_same Truth ts ≡ true
      takes [] e = refl
      takes (s ∷ ss) e = e

      go : (ts : List Term) → IsWellSorted symbols [] (of And ts) → is_formula_of And (of And ts) ≡ true
      go ts w =
          let fits = head_fits symbols [] And (terms_of ts) w in
          rw (fits, takes (map sort_of (list_of (terms_of ts))) fits) refl

  -- and one that holds has a clause for each
  module _ (us : List Term) (i : Contains (whole_terms p) (of And us)) (t : Term) (k : Contains (arguments_of (of And us)) t) where
    abbrev clause : Clause
    clause = negated (of And us) ∷ t ∷ []

    by_scheme : Contains (clauses_by and_pos (of And us)) clause
    by_scheme = subst (λ (b : Bool). Contains (cond b (map (λ (ls : Clause). negated (of And us) ∷ ls) (map (λ (u : Term). u ∷ []) (arguments_of (of And us)))) []) clause) (sym (conjunction_formula us i))
        (to_image (λ (ls : Clause). negated (of And us) ∷ ls) (map (λ (u : Term). u ∷ []) (arguments_of (of And us))) (t ∷ []) (to_image (λ (u : Term). u ∷ []) (arguments_of (of And us)) t k))

    conjunct_clause : Contains (whole_clauses p) clause
    conjunct_clause =
        let u = of And us in
        let own = in_flat (λ (s : Scheme). clauses_by s u) schemes and_pos clause (2, omega arith, refl) by_scheme in
        Contains-append_right (map (λ (w : Term). w ∷ []) p.asserted) (flat_map whole_clauses_of (whole_terms p)) clause
        (in_flat whole_clauses_of (whole_terms p) u clause i (Contains-append_left (defining_clauses u) (order_clauses u) clause (Contains-append_left (clauses_of u) (choice_clauses u) clause own)))

    argument_holds : Holds (of And us) → Holds t
    argument_holds h = by_two cs (literal_of (negated (of And us))) (literal_of t) (base clause conjunct_clause) (subst (Derives complement cs []) (sym (conjunction_denied us)) h)

  -- so conjuncts of asserted terms hold
  pub conjunct_holds : (t : Term) → IsConjunctOf p.asserted t → Contains (whole_terms p) t × Holds t
  conjunct_holds _ (itself t i) = (
    searched_whole p t (known_spoken p t ((least_of (p.interface ++ (p.asserted ++ p.assumed))).there t (Contains-append_right p.interface (p.asserted ++ p.assumed) t (Contains-append_left p.asserted p.assumed t i)))),
    alone_holds t i,
  )
  conjunct_holds _ (argument us t a i) =
      let h = conjunct_holds (of And us) a in
      let k : Contains (arguments_of (of And us)) t = subst (λ (ts : List Term). Contains ts t) (sym (list_of-terms_of us)) i in
      (whole_closed p (of And us) t h.0 k, argument_holds us h.0 t k h.1)

  -- and an equality to which the cases of an asserted disjunction lead is a fact
  pub case_fact : (ts : List Term) (d e : Term) → IsAssertedDisjunction p.asserted d → IsElementEquality ts e → Contains cs (literals_of (negated d ∷ e ∷ [])) → IsFact cs e
  case_fact ts d e a h i =
      let here : Contains cs (literal_of (negated (of Or a.cases)) ∷ literal_of e ∷ []) = subst (λ (t : Term). Contains cs (literal_of (negated t) ∷ literal_of e ∷ [])) a.is i in
      let holds : Holds (of Or a.cases) = subst Holds a.is (conjunct_holds d a.asserted).1 in
      let bare : literal_of e ≡ yes e = subst (λ (t : Term). literal_of t ≡ yes t) (sym h.is) (equality_alone h.left h.right) in
      subst (Derives complement cs []) bare (by_two cs (literal_of (negated (of Or a.cases))) (literal_of e) here (subst (Derives complement cs []) (sym (disjunction_denied a.cases)) holds))

-- lemmas over some terms are lemmas over more
derives_more : (ts us : List Term) → AreAmong ts us → (a b : Derived) → DerivesLemmas ts a b → DerivesLemmas us a b
derives_more ts us among a b h = record {
  table = h.table;
  declared = h.declared;
  more = h.more;
  log = h.log;
  right = h.right;
  lemmas = All-weaker (λ (l : Logged). IsLemma ts (derivation_in b.table b.log) (length a.log) (inference_of b.table l)) (λ (l : Logged). IsLemma us (derivation_in b.table b.log) (length a.log) (inference_of b.table l))
      (λ l. lemma_more ts us among (derivation_in b.table b.log) (length a.log) (inference_of b.table l)) h.more h.lemmas;
}

-- an equality of elements among terms is one among more
element_more : (ts us : List Term) → AreAmong ts us → (e : Term) → IsElementEquality ts e → IsElementEquality us e
element_more ts us among e h = record { left = h.left; left_in = among h.left h.left_in; right = h.right; right_in = among h.right h.right_in; sort = h.sort; left_sort = h.left_sort; right_sort = h.right_sort; is = h.is }

-- the subterms of asserted terms are those of the problem
below_asked : (ts : List Term) (p : Problem) → p.asserted ≡ ts → AreAmong (subterms_of ts) (subterms_in p)
below_asked ts p is = more_subterms ts (p.asserted ++ p.assumed) (λ t i. Contains-append_left p.asserted p.assumed t (subst (λ (us : List Term). Contains us t) (sym is) i))

-- a search of roots that begins, where lemmas came into its log
module _ (ts : List Term) (t u : TableView) (x : Search) (roots : List TermId) (formulas : AreFormulasIn t roots) (asked : ts ≡ clause_at t roots) (b : IsBegun t (speaking ts []) [] x) (log : List Logged)
    (derives : DerivesLemmas (asserted_below t roots) (derived t x.log) (derived u log)) where
  abbrev pub at_first : Problem
  at_first = speaking ts []

  abbrev pub lemmas_in : Search
  lemmas_in = record x { log = log }

  pub spoken : AreAmong (asserted_below t roots) (clause_at t x.terms.items)
  spoken w i = b.search.listed.each w (searched_whole at_first w (subterms_spoken at_first w (below_asked (clause_at t roots) at_first asked w i)))

  pub related_in : HasRelated t u x lemmas_in
  related_in = related_lemmas t u x log (clause_at t x.terms.items) refl b.ready (derives_more (asserted_below t roots) (clause_at t x.terms.items) spoken (derived t x.log) (derived u log) derives)

  pub begun_in : IsBegun u at_first [] lemmas_in
  begun_in = begun_related t u at_first x lemmas_in related_in b

  roots_in : AreIn t roots
  roots_in = All-weaker (IsFormulaIn t) (IsIn t) (λ id f. f.0) roots formulas

  pub asked_in : clause_at u roots ≡ ts
  asked_in = clause_at-kept t u derives.table roots roots_in ∙ sym asked

  -- the equalities that were found are formulas, for which the search answers
  module _ (ids : List TermId) (found : List CaseEquality) (are : ids ≡ map (λ (z : CaseEquality). z.equality) found) (each : All (IsCaseEquality u log roots) found) where
    each_of : (id : TermId) → Contains ids id → (f : CaseEquality) × IsCaseEquality u log roots f × (f.equality ≡ id)
    each_of id i =
        let f = from_image (λ (q : CaseEquality). q.equality) found id (subst (λ (is : List TermId). Contains is id) are i) in
        (f.0, All-contains (IsCaseEquality u log roots) found f.0 each f.1, f.2)

    pub found_formulas : AreFormulasIn u ids
    found_formulas = All-weaker (Contains ids) (IsFormulaIn u) (λ id i. let f = each_of id i in subst (IsFormulaIn u) f.2 f.1.formula) ids (All-contains_itself ids)

    pub found_linear : AreAnswered (clause_at u ids)
    found_linear = All-weaker (Contains (clause_at u ids)) IsLinear (λ e i.
        let n = from_image (term_at u) ids e i in
        let f = each_of n.0 n.1 in
        let own = element_more (asserted_below u roots) (subterms_in at_first) (below_asked (clause_at u roots) at_first (sym asked_in)) (term_at u f.0.equality) f.1.elements in
        subst IsLinear (ap (term_at u) f.2 ∙ n.2) (equality_linear u lemmas_in at_first begun_in.search (term_at u f.0.equality) (inr own))) (clause_at u ids) (All-contains_itself (clause_at u ids))

  -- then it grew by the equalities
  module _ (w : TableView) (y : Search) (ids : List TermId) (grown : HasGrown (state u lemmas_in) (state w y) [] ids) where
    abbrev pub with_cases : Problem
    with_cases = speaking ts (clause_at u ids)

    pub searched : IsSearch w with_cases [] y
    searched = grown.search with_cases [] (goes_on at_first begun_in.search refl refl)

    pub begun_grown : IsBegun w with_cases [] y
    begun_grown = record {
      ready = grown.ready;
      empty = grown.trail.literals ∙ begun_in.empty;
      level = grown.trail.level ∙ begun_in.level;
      fed = grown.fed ∙ begun_in.fed;
      search = searched;
      unlearned = ap (λ b. b.learned) grown.budget ∙ begun_in.unlearned;
      unspent = ap (λ b. b.exchanges) grown.budget ∙ begun_in.unspent;
    }

    roots_later : AreIn u roots
    roots_later = AreIn-kept t u derives.table roots roots_in

    asked_later : clause_at w roots ≡ clause_at u roots
    asked_later = clause_at-kept u w grown.table roots roots_later

    wider : Widens u w
    wider = record { terms = grown.table; declared = grown.declared }

    -- what was found stays
    module _ (z : CaseEquality) (h : IsCaseEquality u log roots z) where
      disjunction_in : IsIn u z.disjunction
      disjunction_in = disjunction_there u z.disjunction h.asserted.cases h.asserted.is

      disjunction_same : term_at w z.disjunction ≡ term_at u z.disjunction
      disjunction_same = term_at-kept u w grown.table z.disjunction disjunction_in

      equality_same : term_at w z.equality ≡ term_at u z.equality
      equality_same = term_at-kept u w grown.table z.equality h.formula.0

      step_same : logged_at y.log z.step ≡ logged_at log z.step
      step_same = ap (λ (ls : List Logged). logged_at ls z.step) grown.log ∙ get_or_append_left log grown.logged no_logged z.step.0 h.there

      step_in : AreIn u (named (logged_at log z.step))
      step_in = All-weaker (IsFormulaIn u) (IsIn u) (λ id f. f.0) (named (logged_at log z.step)) (derives.right.formulas z.step.0 no_logged h.there)

      pub found_later : IsCaseEquality w y.log roots z
      found_later = record {
        asserted = subst (λ (us : List Term). IsAssertedDisjunction us (term_at w z.disjunction)) (sym asked_later) (subst (IsAssertedDisjunction (clause_at u roots)) (sym disjunction_same) h.asserted);
        formula = formula_kept u w wider z.equality h.formula;
        elements = subst (λ (us : List Term). IsElementEquality (subterms_of us) (term_at w z.equality)) (sym asked_later) (subst (IsElementEquality (asserted_below u roots)) (sym equality_same) h.elements);
        there = omega (arith, h.there, ap length grown.log, length-append log grown.logged);
        says = ap (λ (l : Logged). clause_at w (named l)) step_same ∙ clause_at-kept u w grown.table (named (logged_at log z.step)) step_in ∙ h.says
            ∙ sym (λ i. negated (disjunction_same i) ∷ equality_same i ∷ []);
      }

    -- each term that it speaks of is well sorted
    sorted_in : (q : Term) → Contains (whole_terms with_cases) q → IsWellSorted w.symbols [] q
    sorted_in q i =
        let n = from_image (term_at w) y.terms.items q (searched.listed.each q i) in
        subst (IsWellSorted w.symbols []) n.2 (All-contains (IsTermIn w) y.terms.items n.0 searched.listed.there n.1).1

    -- where different numbers have different terms, it has the number of each
    module _ (differ : AreDifferent w.terms) where
      in_terms : (id : TermId) → IsIn w id → Contains (whole_terms with_cases) (term_at w id) → Contains y.terms.items id
      in_terms id there i =
          let n = from_image (term_at w) y.terms.items (term_at w id) (searched.listed.each (term_at w id) i) in
          let there_too = (All-contains (IsTermIn w) y.terms.items n.0 searched.listed.there n.1).0 in
          let same : n.0 ≡ id = λ k. record { 0 = differ n.0.0 id.0 there_too there n.2 k } in
          subst (Contains y.terms.items) same n.1

      in_atoms : (id : TermId) → IsFormulaIn w id → literal_of (term_at w id) ≡ yes (term_at w id) → Contains (whole_terms with_cases) (term_at w id) → Contains y.atoms.items id
      in_atoms id formula bare i = grown.ready.atoms_are.chosen.each id (in_terms id formula.0 i) (formula, bare)

      -- both terms of what was found are atoms
      pub over_atoms : (z : CaseEquality) → IsCaseEquality u log roots z → Contains ids z.equality → IsOverAtomsOf y.atoms.items z
      over_atoms z h i =
          let later = found_later z h in
          let own = subst (λ (us : List Term). IsConjunctOf us (term_at w z.disjunction)) (asked_later ∙ asked_in) later.asserted.asserted in
          let spoken_of = (conjunct_holds w.symbols with_cases sorted_in (images w y.store.clauses) searched.whole.base (term_at w z.disjunction) own).0 in
          let named_in : Contains (clause_at u ids) (term_at w z.equality) = subst (Contains (clause_at u ids)) (sym (equality_same z h)) (to_image (term_at u) ids z.equality i) in
          let known = known_whole w y with_cases searched (term_at w z.equality) (Contains-append_left (clause_at u ids) (ts ++ []) (term_at w z.equality) named_in) in (
            in_atoms z.disjunction (disjunction_there w z.disjunction later.asserted.cases later.asserted.is, record { term = sorted_in (term_at w z.disjunction) spoken_of; sort = subst (λ (q : Term). sort_of q ≡ Truth) (sym later.asserted.is) (disjunction_truth later.asserted.cases) }) (subst (λ (q : Term). literal_of q ≡ yes q) (sym later.asserted.is) (disjunction_alone later.asserted.cases)) spoken_of,
            in_atoms z.equality later.formula (subst (λ (q : Term). literal_of q ≡ yes q) (sym later.elements.is) (equality_alone later.elements.left later.elements.right)) known,
          )

    -- and where their clauses were kept, it begins with them as facts
    module _ (found : List CaseEquality) (are : ids ≡ map (λ (z : CaseEquality). z.equality) found) (each : All (IsCaseEquality u log roots) found) (z : Search) (related : HasRelated w w y z) (stored : All (IsStored w z) found) where
      all_search : IsSearch w with_cases [] z
      all_search = related.continues.search with_cases [] searched

      abbrev clauses : List (List Literal)
      clauses = images w z.store.clauses

      -- an interface equality is that of something found
      from_found : (e : Term) → Contains (clause_at u ids) e → (f : CaseEquality) × Contains found f × (term_at u f.equality ≡ e)
      from_found e i =
          let n = from_image (term_at u) ids e i in
          let f = from_image (λ (q : CaseEquality). q.equality) found n.0 (subst (λ (is : List TermId). Contains is n.0) are n.1) in
          (f.0, f.1, ap (term_at u) f.2 ∙ n.2)

      found_elements : (f : CaseEquality) → Contains found f → IsElementEquality (subterms_in with_cases) (term_at u f.equality)
      found_elements f i =
          let h = All-contains (IsCaseEquality u log roots) found f each i in
          element_more (asserted_below u roots) (subterms_in with_cases) (below_asked (clause_at u roots) with_cases (sym asked_in)) (term_at u f.equality) h.elements

      found_fact : (f : CaseEquality) → Contains found f → IsFact clauses (term_at u f.equality)
      found_fact f i =
          let h = All-contains (IsCaseEquality u log roots) found f each i in
          let later = found_later f h in
          let own = subst (λ (us : List Term). IsAssertedDisjunction us (term_at w f.disjunction)) (asked_later ∙ asked_in) later.asserted in
          subst (IsFact clauses) (equality_same f h)
          (case_fact w.symbols with_cases sorted_in clauses all_search.whole.base (asserted_below w roots) (term_at w f.disjunction) (term_at w f.equality) own later.elements (All-contains (IsStored w z) found f stored i))

      pub begun_with : IsBegunFor ts (state w z)
      begun_with = record {
        interface = clause_at u ids;
        begun = begun_related w w with_cases y z related begun_grown;
        apart = record {
          equalities = All-weaker (Contains (clause_at u ids)) (IsInterfaceEquality (subterms_in with_cases))
              (λ e i. let f = from_found e i in inr (subst (IsElementEquality (subterms_in with_cases)) f.2 (found_elements f.0 f.1))) (clause_at u ids) (All-contains_itself (clause_at u ids));
          facts = λ e i h. let f = from_found e i in subst (IsFact clauses) f.2 (found_fact f.0 f.1);
          apart = subst (λ (cs : List (List Lit)). All (StandsApart with_cases) (images w cs)) (sym (begun_related w w with_cases y z related begun_grown).unlearned) (All-nil (StandsApart with_cases));
        };
      }

-- the clause of what was found is false where its disjunction holds and its equality does not
abbrev pub held_of : CaseEquality → List Lit
held_of z = record { term = z.disjunction; positive = true } ∷ record { term = z.equality; positive = false } ∷ []

disjunction_no : (us : List Term) → literal_of (negated (of Or us)) ≡ record { atom = of Or us; positive = false }
unfolding literal_of
disjunction_no us = refl

module _ (t : TableView) (differ : AreDifferent t.terms) (log : List Logged) (roots : List TermId) (z : CaseEquality) (h : IsCaseEquality t log roots z) where
  first_is : literal_of (negated (term_at t z.disjunction)) ≡ literal_at t (record { term = z.disjunction; positive = false })
  first_is = subst (λ (q : Term). literal_of (negated q) ≡ record { atom = q; positive = false }) (sym h.asserted.is) (disjunction_no h.asserted.cases)

  second_is : literal_of (term_at t z.equality) ≡ literal_at t (record { term = z.equality; positive = true })
  second_is = subst (λ (q : Term). literal_of q ≡ yes q) (sym h.elements.is) (equality_alone h.elements.left h.elements.right)

  pub case_clash : IsClash t log (held_of z) z.step
  case_clash = record { in_log = h.there; fails = λ m lit. go m lit.in_table (subst (λ (c : Clause). Contains (literals_of c) (literal_at t m)) h.says lit.there) }
    where
      one : Lit
      one = record { term = z.disjunction; positive = true }

      two : Lit
      two = record { term = z.equality; positive = false }

      go : (m : Lit) → IsIn t m.term → Contains (literals_of (negated (term_at t z.disjunction) ∷ term_at t z.equality ∷ [])) (literal_at t m) → Contains (held_of z) (lit_complement m)
      go m m_in i = elim (cases (literal_of (negated (term_at t z.disjunction))) (literal_of (term_at t z.equality) ∷ []) (literal_at t m) i) [
        | inl e ↦ subst (λ (l : Lit). Contains (held_of z) (lit_complement l)) (literals_apart t differ (lit_complement one) m (disjunction_there t z.disjunction h.asserted.cases h.asserted.is) m_in (sym first_is ∙ e)) (first one (two ∷ []))
        | inr k ↦ subst (λ (l : Lit). Contains (held_of z) (lit_complement l)) (literals_apart t differ (lit_complement two) m h.formula.0 m_in (sym second_is ∙ only (literal_of (term_at t z.equality)) (literal_at t m) k)) (later one (two ∷ []) two (first two []))
      ]

  -- and it is stored where it was kept
  pub kept_stored : (y w : Search) → y.log ≡ log → HasKept t z.step y w → IsStored t w z
  kept_stored y w same k =
      let says : literals_of (clause_at t (named (logged_at y.log z.step))) ≡ literals_of (negated (term_at t z.disjunction) ∷ term_at t z.equality ∷ []) = ap (λ (ls : List Logged). literals_of (clause_at t (named (logged_at ls z.step)))) same ∙ ap literals_of h.says in
      subst (λ (c : List Literal). Contains (images t w.store.clauses) c) (k.1.means.same ∙ says)
      (to_image (map (literal_at t)) w.store.clauses k.1.clause (subst (λ (cs : List (List Lit)). Contains cs k.1.clause) (sym k.1.clauses) (Contains-append_right y.store.clauses (k.1.clause ∷ []) k.1.clause (first k.1.clause []))))

-- what was stored stays
pub stored_later : (t : TableView) (y w : Search) (step : StepId) → HasKept t step y w → (z : CaseEquality) → IsStored t y z → IsStored t w z
stored_later t y w step k z h =
    let c = literals_of (negated (term_at t z.disjunction) ∷ term_at t z.equality ∷ []) in
    let n = from_image (map (literal_at t)) y.store.clauses c h in
    subst (λ (e : List Literal). Contains (images t w.store.clauses) e) n.2
    (to_image (map (literal_at t)) w.store.clauses n.0 (subst (λ (cs : List (List Lit)). Contains cs n.0) (sym k.1.clauses) (Contains-append_left y.store.clauses (k.1.clause ∷ []) n.0 n.1)))

-- its literals are of atoms
pub held_over : (atoms : List TermId) (z : CaseEquality) → IsOverAtomsOf atoms z → AreOfAtoms atoms (held_of z)
held_over atoms z h l i = elim (cases (record { term = z.disjunction; positive = true }) (record { term = z.equality; positive = false } ∷ []) l i) [
  | inl e ↦ subst (λ (m : Lit). Contains atoms m.term) e h.0
  | inr k ↦ subst (λ (m : Lit). Contains atoms m.term) (only (record { term = z.equality; positive = false }) l k) h.1
]
