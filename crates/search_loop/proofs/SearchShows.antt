-- That answers show what they should of the problem that the search is asked.
use Rattle.std.proofs.Common.{◌≡◌, ℕ, List, [], ◌∷◌, ◌++◌, length, get_or, map, All, Contains, inr, refl, sym, ap, ◌∙◌, subst, arith}
use Rattle.std.proofs.lemmas.List.{append_assoc, length-map, map-append}
use Rattle.std.proofs.lemmas.List.Elements.{All-map, Contains-append_left, Contains-get_or}
use Rattle.spec_text.specs.Trees.{none as no_texts}
use Rattle.spec_text.proofs.Members.{to_image}
use Rattle.spec_sorts.specs.Literals.{Clause, Literal, complement, literals_of}
use Rattle.spec_proofs.specs.declared.Rule.TheVariants.{Resolution}
use Rattle.spec_derivations.specs.Problems.{Problem, terms_of_problem}
use Rattle.spec_derivations.specs.Derivations.{Inference, Derivation, by_rule, conclusion_at, IsDerivation, AssumesAmong, IsDerivedFrom}
use Rattle.spec_derivations.specs.Orders.{whole_terms, whole_clauses}
use Rattle.spec_derivations.specs.ExactChains.{IsExactFrom, AreExactResolvents}
use Rattle.spec_derivations.specs.Inputs.{IsInput}
use Rattle.spec_derivations.specs.Learned.{IsNew}
use Rattle.spec_interfaces.specs.Interfaces.{numbers_alone, StandsApart}
use Rattle.spec_interfaces.proofs.Apart.{atom_apart}
use Rattle.spec_derivations.specs.Spent.{CanLearnMore, IsAtomOf, IsOverAtoms, IsLearnedFrom, at_start, AreLearned}
use Rattle.term_core.specs.declared.ids.TermId.{TermId}
use Rattle.term_core.specs.declared.ids.Lit.{Lit}
use Rattle.term_core.specs.Tables.{TableView, declared_in, AreDifferent, term_at, literal_at, clause_at, Extends}
use Rattle.clause_literals.specs.Literals.{IsConsistent, AreLiteralsIn}
use Rattle.proof_log.specs.declared.premises.StepId.{StepId}
use Rattle.proof_log.specs.Logs.{Logged, stepped, numbers_of, inference_of, derivation_in, IsLogOf}
use Rattle.term_clauses.proofs.Parts.{formula_kept}
use Rattle.term_clauses.proofs.Speaking.{problem_kept}
use Rattle.clausify.specs.SearchTerms.{AreSearchTerms}
use Rattle.sat_budget.specs.declared.limits.Reason.TheVariants.{Conflicts}
use Rattle.sat_trail.specs.Trails.{VariablesAreApart, IsLeveled}
use Rattle.clause_store.specs.Stores.{IsAdded}
use Rattle.conflict_learn.specs.Learned.{IsLogged, IsLearned}
use Rattle.conflict_learn.specs.declared.learned.Learned.{Learned}
use Rattle.search_loop.specs.declared.search.Search.{Search}
use Rattle.search_loop.specs.declared.cdcl.Answer.{Answer}
use Rattle.search_loop.specs.declared.cdcl.Answer.TheVariants.{Unsat, Unknown}
use Rattle.search_loop.specs.Search.{images, SearchFits, conflict_of}
use Rattle.search_loop.specs.Rounds.{HasDerived, BeganAfter, HasWholeClauses, HasSteps, IsSearch, HoldsApart, HasEvidence, HasLogged, IsLearning, IsNoted, ShowsAnswer}
use Rattle.search_loop.proofs.SearchLists.{lits_kept, images_kept}
use Rattle.search_loop.proofs.SearchReady.{Ids, atom_in, clauses_in, false_at, atom_of, clause_is}
use Rattle.search_loop.proofs.SearchLogs.{all_back, stated_on, whole_on, began_onward, steps_more, among_more, last_derived, last_concludes, derived_kept, exact_kept, exact_given, derived_more}
use Rattle.search_loop.proofs.SearchConflicts.{atom_of as atom_there, no_fact, one_is_new}
use Rattle.search_loop.proofs.SearchApart.{apart_with}
use Rattle.search_loop.proofs.SearchGrown.{listed_kept, continues_wider}

-- what is derived may be learned
pub derived_shows : (t : TableView) (problem : Problem) (log : List Logged) (cs earlier : List (List Literal)) (learned : List (List Lit)) (a : Answer) → IsLogOf t log → HasDerived problem (derivation_in t log) cs earlier (images t learned) → All (StandsApart problem) (earlier ++ images t learned) → HasLogged problem (derivation_in t log) a (earlier ++ images t learned) → IsLearning t problem log earlier a learned
derived_shows t problem log cs earlier learned a right h apart logged = record {
  assumes = all_back (inference_of t) (AssumesAmong (terms_of_problem problem)) log h.assumes;
  learns = record { right = right.right; derived = h.derived; atoms = h.atoms; new = h.new; exact = h.exact };
  apart = apart;
  logged = logged;
}

-- what was learned may be learned, where the log stays as it is
pub learning_shows : (t : TableView) (problem : Problem) (earlier : List (List Literal)) (x : Search) (a : Answer) → (HasSteps problem (derivation_in t x.log) (earlier ++ images t x.budget.learned) → HasLogged problem (derivation_in t x.log) a (earlier ++ images t x.budget.learned)) → IsLogOf t x.log → IsSearch t problem earlier x → HoldsApart t problem earlier x → IsLearning t problem x.log earlier a x.budget.learned
learning_shows t problem earlier x a steps right s apart =
    derived_shows t problem x.log (images t x.store.clauses) earlier x.budget.learned a right s.derived apart.apart (steps (record { each = s.whole.stated; steps = s.derived.steps }))

-- one clause more could be learned, which stands apart
abbrev CanLearnApart : Problem → Derivation → (earlier learned : List (List Literal)) → Type 0
CanLearnApart problem d earlier learned = (more : CanLearnMore problem d earlier learned) × StandsApart problem more.clause

-- where the budget is spent at a further conflict, the answer shows it
pub unknown_shows : (t : TableView) (problem : Problem) (earlier : List (List Literal)) (x : Search) (n : ℕ) → IsLogOf t x.log → IsSearch t problem earlier x → HoldsApart t problem earlier x → length x.budget.learned ≡ x.budget.limit → n ≡ x.budget.limit → CanLearnApart problem (derivation_in t x.log) earlier (images t x.budget.learned)
    → HasEvidence t problem x.log earlier x.budget (Unknown (Conflicts n)) × IsLearning t problem x.log earlier (Unknown (Conflicts n)) x.budget.learned
unknown_shows t problem earlier x n right s apart full carries conflict =
    let learning = learning_shows t problem earlier x (Unknown (Conflicts n)) (λ h. h) right s apart in
    ((record { full = rw length-map full; carries = carries; learns = learning.learns }, conflict), learning)

-- a clause of no literals has no terms
none_of : (c : Clause) → [] ≡ literals_of c → c ≡ []
none_of [] e = refl
none_of (u ∷ us) e = absurd (omega (arith, ap length e))

-- with a step that was logged
module _ (t u : TableView) (log new : List Logged) (same : derivation_in u log ≡ derivation_in t log) (ps : List StepId) (ids : List TermId) (last : new ≡ log ++ stepped Resolution ps [] ids ∷ []) where
  pub derivation_is : derivation_in u new ≡ derivation_in t log ++ by_rule Resolution (numbers_of ps) no_texts (clause_at u ids) ∷ []
  derivation_is = ap (derivation_in u) last ∙ map-append (inference_of u) log (stepped Resolution ps [] ids ∷ []) ∙ ap (λ (d : Derivation). d ++ by_rule Resolution (numbers_of ps) no_texts (clause_at u ids) ∷ []) same

-- where the clause has no literals, it refutes the terms
pub unsat_shows : (t : TableView) (x y : Search) (clash id : StepId) → y.budget ≡ x.budget → IsLogged (conflict_of t x clash) t y.log [] id → ShowsAnswer t t x y (Unsat id)
unsat_shows t x y clash id budget l problem earlier s apart =
    let c : Clause = clause_at t l.terms in
    let ps = numbers_of l.premises in
    let d = derivation_in t x.log in
    let ls = images t x.budget.learned in
    let empty : c ≡ [] = none_of c l.means.same in
    let is : derivation_in t y.log ≡ d ++ by_rule Resolution ps no_texts c ∷ [] = derivation_is t t x.log y.log refl l.premises l.terms l.last in
    let right : IsDerivation (d ++ by_rule Resolution ps no_texts c ∷ []) = subst IsDerivation is l.right.right in
    let cs = images t x.store.clauses in
    let number : id.0 ≡ length d = rw length-map l.number in
    let h = s.derived in
    let learned : images t y.budget.learned ≡ ls = ap (λ b. images t b.learned) budget in (
      (
        (λ i. conclusion_at (is i) (number i)) ∙ last_concludes problem d cs earlier ls h ps c right ∙ empty,
        subst (λ e. IsDerivedFrom (terms_of_problem problem) e id.0) (sym is) (subst (λ n. IsDerivedFrom (terms_of_problem problem) (d ++ by_rule Resolution ps no_texts c ∷ []) n) (sym number) (last_derived problem d cs earlier ls h ps c right)),
      ),
      record {
        assumes = all_back (inference_of t) (AssumesAmong (terms_of_problem problem)) y.log (subst (All (AssumesAmong (terms_of_problem problem))) (sym is) (among_more problem d cs earlier ls h ps c right));
        learns = subst (λ k. AreLearned problem (derivation_in t y.log) earlier k) (sym learned) (record {
          right = l.right.right;
          derived = subst (λ e. All (IsLearnedFrom problem e) (earlier ++ ls)) (sym is) (derived_kept problem d cs earlier ls h ps c right);
          atoms = h.atoms;
          new = h.new;
          exact = subst (λ e. AreExactResolvents complement (IsInput problem e) (earlier ++ ls)) (sym is) (exact_kept problem d cs earlier ls h ps c right);
        });
        apart = subst (λ k. All (StandsApart problem) (earlier ++ k)) (sym learned) apart.apart;
        logged = subst (λ k. HasSteps problem (derivation_in t y.log) ((earlier ++ k) ++ [] ∷ [])) (sym learned)
            (subst (λ e. HasSteps problem e ((earlier ++ ls) ++ [] ∷ [])) (sym is)
            (subst (λ (k : List (List Literal)). HasSteps problem (d ++ by_rule Resolution ps no_texts c ∷ []) k) (sym (append_assoc earlier ls ([] ∷ [])))
            (subst (λ (k : List Literal). HasSteps problem (d ++ by_rule Resolution ps no_texts c ∷ []) (earlier ++ (ls ++ k ∷ []))) (ap literals_of empty) (record {
              each = stated_on (whole_clauses problem) d (by_rule Resolution ps no_texts c ∷ []) s.whole.stated;
              steps = steps_more problem d cs earlier ls h ps c right (inr empty);
            }))));
      },
    )

-- what is learned from a conflict
module _ (t u : TableView) (g : Extends t u) (differ : AreDifferent t.terms) (declared : declared_in u ≡ declared_in t)
    (x : Search) (r : SearchFits t x) (once : VariablesAreApart x.trail.literals) (leveled : IsLeveled x.trail) (consistent : IsConsistent x.trail.literals) (same : derivation_in u x.log ≡ derivation_in t x.log)
    (clash : StepId) (log : List Logged) (d : Learned) (l : IsLearned (conflict_of t x clash) u log d) where
  clause_in : AreLiteralsIn t d.clause
  clause_in k e lt = (atom_in t x r (get_or d.clause k e).term (atom_of t u x r clash log d l (get_or d.clause k e) (Contains-get_or d.clause k e lt))).0.0

  abbrev clause : Clause
  clause = clause_at u l.logged.terms

  abbrev inference : Inference
  inference = by_rule Resolution (numbers_of l.logged.premises) no_texts clause

  literals_are : literals_of (clause_at u l.logged.terms) ≡ map (literal_at t) d.clause
  literals_are = sym l.logged.means.same ∙ lits_kept t u g d.clause clause_in

  is : derivation_in u log ≡ derivation_in t x.log ++ inference ∷ []
  is = derivation_is t u x.log log same l.logged.premises l.logged.terms l.logged.last

  module _ (problem : Problem) (earlier : List (List Literal)) (s : IsSearch t problem earlier x) where
    h : HasDerived problem (derivation_in t x.log) (images t x.store.clauses) earlier (images t x.budget.learned)
    h = s.derived

    -- what the atoms are, is a term that the search speaks of
    spoken : (id : TermId) → Contains x.atoms.items id → Contains (whole_terms problem) (term_at t id)
    spoken id i = s.listed.only (term_at t id) (to_image (term_at t) x.terms.items id (r.atoms_are.chosen.among id i))

    atoms : All (λ (z : Literal). IsAtomOf problem z.atom) (map (literal_at t) d.clause)
    atoms = All-map (λ (z : Literal). IsAtomOf problem z.atom) (literal_at t) d.clause (λ k e lt.
        let f = false_at t u x r clash log d l (get_or d.clause k e) (Contains-get_or d.clause k e lt) in
        atom_there t differ x r once leveled consistent problem (derivation_in t x.log) earlier (images t x.budget.learned) h s.whole (get_or d.clause k e) f.0 f.1 f.2 spoken)

    right : IsDerivation (derivation_in t x.log ++ inference ∷ [])
    right = subst IsDerivation is l.logged.right.right

    is_new : IsNew (at_start problem earlier ++ images t x.budget.learned) (literals_of clause)
    is_new = subst (IsNew (at_start problem earlier ++ images t x.budget.learned)) (sym literals_are)
        (one_is_new t differ x r once leveled consistent problem (derivation_in t x.log) earlier (images t x.budget.learned) h s.whole d.clause l.level d.level l.one l.above)

    over_atoms : IsOverAtoms problem (literals_of clause)
    over_atoms = subst (IsOverAtoms problem) (sym literals_are) atoms

    -- and over no equality of elements that came beside the terms, as those are facts
    pub stands_apart : HoldsApart t problem earlier x → StandsApart problem (literals_of clause)
    stands_apart apart = subst (StandsApart problem) (sym literals_are)
        (All-map (λ (z : Literal). IsAtomOf (numbers_alone problem) z.atom) (literal_at t) d.clause (λ k e lt.
        let m = get_or d.clause k e in
        let f = false_at t u x r clash log d l m (Contains-get_or d.clause k e lt) in
        atom_apart problem apart.equalities (term_at t m.term)
        (atom_there t differ x r once leveled consistent problem (derivation_in t x.log) earlier (images t x.budget.learned) h s.whole m f.0 f.1 f.2 spoken)
        (λ element i. no_fact t differ x r once leveled consistent problem (derivation_in t x.log) earlier (images t x.budget.learned) h s.whole m f.0 f.1 f.2 (apart.facts (term_at t m.term) i element))))

    -- what it is from, is the same in the table that grew
    exact : IsExactFrom (derivation_in t x.log) inference
    exact = subst (λ (e : Derivation). IsExactFrom e inference) same l.exact

    more : HasDerived problem (derivation_in t x.log ++ inference ∷ []) (images t x.store.clauses ++ literals_of clause ∷ []) earlier (images t x.budget.learned ++ literals_of clause ∷ [])
    more = derived_more problem (derivation_in t x.log) (images t x.store.clauses) earlier (images t x.budget.learned) h (numbers_of l.logged.premises) clause right is_new over_atoms exact

    -- so one clause more could be learned
    pub is_conflict : HoldsApart t problem earlier x → CanLearnApart problem (derivation_in t x.log) earlier (images t x.budget.learned)
    is_conflict apart =
        let ps = numbers_of l.logged.premises in
        let d = derivation_in t x.log in
        let cs = images t x.store.clauses in
        let ls = images t x.budget.learned in
        let could : CanLearnMore problem d earlier ls = record {
          clause = literals_of clause;
          more = inference ∷ [];
          right = right;
          derived = record { number = length d; derived = last_derived problem d cs earlier ls h ps clause right; same = ap literals_of (last_concludes problem d cs earlier ls h ps clause right) };
          atoms = over_atoms;
          new = is_new;
          exact = exact_given problem d cs earlier ls h ps clause right exact;
        } in
        (could, stands_apart apart)

  -- which shows that the budget is spent at a further conflict
  pub forgone_shows : IsLogOf u x.log → (n : ℕ) → length x.budget.learned ≡ x.budget.limit → n ≡ x.budget.limit → ShowsAnswer t u x x (Unknown (Conflicts n))
  forgone_shows kept n full carries problem earlier s apart =
      let on = continues_wider t u g declared x kept same r in
      unknown_shows u problem earlier x n kept (on.search problem earlier s) (on.apart problem earlier s apart) full carries
      (subst (λ (e : Derivation). CanLearnApart problem e earlier (images u x.budget.learned)) (sym same)
      (subst (CanLearnApart problem (derivation_in t x.log) earlier) (sym (images_kept t u g x.budget.learned r.learned)) (is_conflict problem earlier s apart)))

-- where it came into the store, what is in hand is still that of a search for the terms
module _ (t u : TableView) (g : Extends t u) (differ : AreDifferent t.terms) (differ_then : AreDifferent u.terms) (declared : declared_in u ≡ declared_in t)
    (x y : Search) (r : SearchFits t x) (once : VariablesAreApart x.trail.literals) (leveled : IsLeveled x.trail) (consistent : IsConsistent x.trail.literals) (same : derivation_in u x.log ≡ derivation_in t x.log)
    (clash : StepId) (d : Learned) (l : IsLearned (conflict_of t x clash) u y.log d) (noted : IsNoted d.clause x.budget y.budget) (a : IsAdded u y.log d.step x.store y.store) (terms : y.terms ≡ x.terms) (since : y.since ≡ x.since) where
  abbrev learned_clause : Clause
  learned_clause = clause_at u l.logged.terms

  stored_in : All (AreLiteralsIn t) x.store.clauses
  stored_in k e lt j z small = clauses_in t x r (get_or x.store.clauses k e) (get_or (get_or x.store.clauses k e) j z) (Contains-get_or x.store.clauses k e lt) (Contains-get_or (get_or x.store.clauses k e) j z small)

  -- a list with the clause last
  last_image : (old new : List (List Lit)) → All (AreLiteralsIn t) old → new ≡ old ++ d.clause ∷ [] → images u new ≡ images t old ++ literals_of (clause_at u l.logged.terms) ∷ []
  last_image old new there is = ap (images u) is ∙ map-append (map (literal_at u)) old (d.clause ∷ []) ∙ (λ i. images_kept t u g old there i ++ l.logged.means.same i ∷ [])

  pub search_learned : (problem : Problem) (earlier : List (List Literal)) → IsSearch t problem earlier x → IsSearch u problem earlier y
  search_learned problem earlier s =
      let e = derivation_in t x.log ++ by_rule Resolution (numbers_of l.logged.premises) no_texts learned_clause ∷ [] in
      record {
        roots = s.roots;
        roots_in = λ k e lt. formula_kept t u (record { terms = g; declared = declared }) (get_or s.roots k e) (s.roots_in k e lt);
        interface = s.interface;
        interface_in = λ k e lt. formula_kept t u (record { terms = g; declared = declared }) (get_or s.interface k e) (s.interface_in k e lt);
        meant = problem_kept t u g s.roots s.interface s.roots_in s.interface_in ∙ s.meant;
        answered = s.answered;
        listed = subst (λ (ids : Ids). AreSearchTerms u problem ids.items) (sym terms) (listed_kept t u g declared problem x.terms.items s.listed);
        derived = subst (λ (f : Derivation). HasDerived problem f (images u y.store.clauses) earlier (images u y.budget.learned)) (sym (is t u g differ declared x r once leveled consistent same clash y.log d l))
            (subst (λ (cs : List (List Literal)). HasDerived problem e cs earlier (images u y.budget.learned))
            (sym (last_image x.store.clauses y.store.clauses stored_in (a.clauses ∙ ap (λ (c : List Lit). x.store.clauses ++ c ∷ []) (clause_is t u g differ_then x y r clash d l noted a))))
            (subst (λ (ls : List (List Literal)). HasDerived problem e (images t x.store.clauses ++ literals_of learned_clause ∷ []) earlier ls)
            (sym (last_image x.budget.learned y.budget.learned r.learned (ap (λ b. b.learned) noted))) (more t u g differ declared x r once leveled consistent same clash y.log d l problem earlier s)));
        began = subst (λ (f : Derivation). BeganAfter problem y.since f earlier) (sym (is t u g differ declared x r once leveled consistent same clash y.log d l))
            (subst (λ (n : ℕ). BeganAfter problem n e earlier) (sym since)
            (began_onward problem x.since (derivation_in t x.log) (by_rule Resolution (numbers_of l.logged.premises) no_texts learned_clause ∷ []) earlier s.began));
        whole = subst (λ (f : Derivation). HasWholeClauses problem f (images u y.store.clauses)) (sym (is t u g differ declared x r once leveled consistent same clash y.log d l))
            (subst (HasWholeClauses problem e) (sym (last_image x.store.clauses y.store.clauses stored_in (a.clauses ∙ ap (λ (c : List Lit). x.store.clauses ++ c ∷ []) (clause_is t u g differ_then x y r clash d l noted a))))
            (whole_on problem (derivation_in t x.log) (by_rule Resolution (numbers_of l.logged.premises) no_texts learned_clause ∷ []) (images t x.store.clauses) (literals_of learned_clause ∷ []) s.whole));
      }

  -- its facts stay
  pub apart_learned : (problem : Problem) (earlier : List (List Literal)) → IsSearch t problem earlier x → HoldsApart t problem earlier x → HoldsApart u problem earlier y
  apart_learned problem earlier s h =
      let stored = last_image x.store.clauses y.store.clauses stored_in (a.clauses ∙ ap (λ (c : List Lit). x.store.clauses ++ c ∷ []) (clause_is t u g differ_then x y r clash d l noted a)) in
      apart_with t u x y
      (λ c i. subst (λ (cs : List (List Literal)). Contains cs c) (sym stored) (Contains-append_left (images t x.store.clauses) (literals_of learned_clause ∷ []) c i))
      problem earlier h (literals_of learned_clause)
      (last_image x.budget.learned y.budget.learned r.learned (ap (λ b. b.learned) noted))
      (stands_apart t u g differ declared x r once leveled consistent same clash y.log d l problem earlier s h)
