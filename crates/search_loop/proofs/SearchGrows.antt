-- That a search that grew is one of the problem to which it grew, and fits together.
use Rattle.std.proofs.Common.{◌≡◌, ◌≢◌, ℕ, suc, ◌+◌, ◌-◌, ◌<◌, ◌≤◌, List, [], ◌∷◌, ◌++◌, length, get_or, map, All, Contains, ◌⊎◌, inl, inr, sym, ap, ◌∙◌, subst, arith}
use Rattle.std.specs.Prelude.{flat_map, Option, None}
use Rattle.std.specs.List.{AllPairs}
use Rattle.std.proofs.lemmas.Bool.{cases_lt}
use Rattle.std.proofs.lemmas.List.{append-nil, append_assoc, length-append, length-map, map-append, get_or-map, get_or_default, get_or_append_left, get_or-append-add}
use Rattle.std.proofs.lemmas.List.FromFn.{get_or-range_with_len}
use Rattle.std.proofs.lemmas.List.Elements.{All-append, All-map, All-contains, All-weaker, Contains-append_left, Contains-append_right, Contains-append_cases, Contains-get_or}
use Rattle.spec_text.proofs.Members.{to_image, from_image, in_flat, from_flat}
use Rattle.spec_sorts.specs.Terms.{Term}
use Rattle.spec_sorts.specs.Subsets.{IsClosed}
use Rattle.spec_sorts.specs.Literals.{Clause, Literal, complement, literals_of}
use Rattle.spec_derivations.specs.Problems.{Problem, terms_of_problem, subterms_in}
use Rattle.spec_derivations.specs.Derivations.{Derivation, no_inference, conclusion, conclusion_at, AssumesAmong}
use Rattle.spec_derivations.specs.Orders.{whole_terms, whole_clauses_of, whole_clauses}
use Rattle.spec_derivations.specs.Inputs.{IsInput}
use Rattle.spec_derivations.specs.Spent.{IsLearnedFrom}
use Rattle.spec_derivations.proofs.Exact.{resolvents_more}
use Rattle.spec_derivations.proofs.Onward.{learned_onward, has_lemma_onward, input_onward}
use Rattle.spec_derivations.proofs.OrderedTerms.{whole_over, whole_closed}
use Rattle.spec_causes.specs.Shared.{IsSharedEquality}
use Rattle.spec_interfaces.specs.Interfaces.{speaking_of}
use Rattle.term_core.specs.declared.ids.TermId.{TermId}
use Rattle.term_core.specs.declared.ids.Lit.{Lit}
use Rattle.term_core.specs.Tables.{TableView, IsIn, AreDifferent, term_at, literal_at, clause_at}
use Rattle.term_core.proofs.TermsExtend.{clause_at-kept}
use Rattle.term_core.proofs.Numbers.{same_numbers}
use Rattle.clause_literals.specs.Literals.{AreLiteralsIn}
use Rattle.proof_log.specs.declared.premises.StepId.{StepId}
use Rattle.proof_log.specs.Logs.{Logged, assumed, stepped, named, no_logged, logged_at, inference_of, derivation_in, stated, AreFormulasIn}
use Rattle.proof_log.specs.Theories.{IsTermIn, IsAtomIn}
use Rattle.proof_log.proofs.Logged.{conclusion_there}
use Rattle.proof_log.proofs.Tables.{grown_same}
use Rattle.term_clauses.specs.Growth.{AssumesOneOf, Grows, AreAllMade}
use Rattle.term_clauses.specs.SpokenTerms.{problem_in, no_id, AreRising}
use Rattle.term_clauses.specs.Stating.{Widens}
use Rattle.term_clauses.proofs.Parts.{formula_kept}
use Rattle.term_clauses.proofs.Speaking.{problem_kept}
use Rattle.clausify.specs.HavingClauses.{HasClausesOf}
use Rattle.clausify.specs.SearchTerms.{AreSearchTerms, AreNewTerms}
use Rattle.sat_trail.specs.Trails.{TrailView, HasSame, IsLeveled}
use Rattle.clause_store.specs.Stores.{StoreView, no_step, LiteralsAreBelow, HasSeen}
use Rattle.clause_store.specs.Propagating.{AreImplied}
use Rattle.conflict_learn.proofs.Meanings.{bare_in}
use Rattle.search_loop.specs.declared.search.Search.{Search}
use Rattle.search_loop.specs.Waiting.{AreWaiting}
use Rattle.search_loop.specs.Search.{images, AreAllOf, DerivesClauses, AreAtomsAmong, AreAtomsOf, AreCovered, AreDecided, SearchFits, Reaches}
use Rattle.search_loop.specs.Rounds.{AreSteps, stating, ComesFrom, HasDerived, BeganAfter, HasWholeClauses, IsSearch, HoldsApart}
use Rattle.search_loop.specs.Growing.{asserting_too, StoresAll}
use Rattle.search_loop.proofs.SearchLists.{of_kept, images_kept}
use Rattle.search_loop.proofs.SearchStored.{derives_on}
use Rattle.search_loop.proofs.SearchLogs.{began_onward}
use Rattle.search_loop.proofs.SearchApart.{apart_grown, apart_rooted}
use Rattle.search_loop.proofs.SearchGrown.{term_kept, atoms_kept}
use Rattle.search_loop.proofs.SearchParts.{IsHad, IsPart, among_whole, among_roots}

-- What came into a search with its terms.
pub record Came (t u : TableView) (x y : Search) (roots interface : List TermId) : Type 0 where
  -- it fitted together
  pub ready : SearchFits t x
  -- the terms were formulas
  pub roots_in : AreFormulasIn t roots
  pub interface_in : AreFormulasIn t interface
  -- no two terms of the table are one
  pub differ : AreDifferent u.terms
  -- the new terms and the steps of their clauses
  pub terms : List TermId
  pub steps : List StepId
  pub new : AreNewTerms u (problem_in t roots interface) x.terms.items terms
  pub states : HasClausesOf u y.log roots terms steps
  -- nothing else came into the log, the store, and the terms
  pub made : AreAllMade x.log y.log steps
  pub grows : Grows roots t u x.log y.log
  pub stores : StoresAll u y.log steps x.store y.store
  pub terms_are : y.terms.items ≡ x.terms.items ++ terms
  -- nothing was learned, in the same check
  pub learned : y.budget.learned ≡ x.budget.learned
  pub since : y.since ≡ x.since

-- pairs of two lists
pairs_append : {A : Type 0} (R : A → A → Type 0) (xs ys : List A) → AllPairs R xs → AllPairs R ys → ((x y : A) → Contains xs x → Contains ys y → R x y) → AllPairs R (xs ++ ys)
pairs_append {A} R xs ys one other across i j d lt small = elim (cases_lt j (length xs)) [
  | inl early ↦ subst (λ (a : A). R a (get_or (xs ++ ys) j d)) (left i (omega (arith, lt, early))) (subst (R (get_or xs i d)) (left j early) (one i j d lt early))
  | inr late ↦ elim (cases_lt i (length xs)) [
    | inl early ↦ subst (λ (a : A). R a (get_or (xs ++ ys) j d)) (left i early)
        (subst (R (get_or xs i d)) (right j late) (across (get_or xs i d) (get_or ys (j - length xs) d) (Contains-get_or xs i d early) (Contains-get_or ys (j - length xs) d (omega (arith, small, late, length-append xs ys)))))
    | inr after ↦ subst (λ (a : A). R a (get_or (xs ++ ys) j d)) (right i after)
        (subst (R (get_or ys (i - length xs) d)) (right j late) (other (i - length xs) (j - length xs) d (omega (arith, lt, after, late)) (omega (arith, small, late, length-append xs ys))))
  ]
]
  where
    left : (k : ℕ) → k < length xs → get_or xs k d ≡ get_or (xs ++ ys) k d
    left k early = sym (get_or_append_left xs ys d k early)

    right : (k : ℕ) → length xs ≤ k → get_or ys (k - length xs) d ≡ get_or (xs ++ ys) k d
    right k late =
        let is : length xs + (k - length xs) ≡ k = omega (arith, late) in
        sym (get_or-append-add xs ys (k - length xs) d) ∙ ap (λ (n : ℕ). get_or (xs ++ ys) n d) is

-- rising numbers differ
rising_once : (ids : List TermId) → AreRising ids → AllPairs (λ (i j : TermId). i ≢ j) ids
rising_once ids rising i j d lt small e =
    let one : get_or ids i no_id ≡ get_or ids i d = get_or_default ids i no_id d (omega (arith, lt, small)) in
    let other : get_or ids j no_id ≡ get_or ids j d = get_or_default ids j no_id d small in
    let less = rising i j lt small in
    omega (arith, less, ap (λ (a : TermId). a.0) (one ∙ e ∙ sym other))

-- clauses of the problem are stated
steps_stating : (p : Problem) (d more : Derivation) (cs : List (List Literal)) → AreSteps p d cs → All (λ x. Contains (whole_clauses p) (conclusion x)) more → AreSteps p (d ++ more) cs
steps_stating p d [] cs h all = subst (λ (e : Derivation). AreSteps p e cs) (sym (append-nil d)) h
steps_stating p d (x ∷ more) cs h all = subst (λ (e : Derivation). AreSteps p e cs) (append_assoc d (x ∷ []) more)
    (steps_stating p (d ++ x ∷ []) more cs (stating d x cs h (all 0 x (omega arith))) (λ k e lt. all (suc k) e (omega (arith, lt))))

-- what is assumed is a root
among_asserted : (u : TableView) (roots : List TermId) (l : Logged) (ts : List Term) → ((w : Term) → Contains (clause_at u roots) w → Contains ts w) → AssumesOneOf roots l → AssumesAmong ts (inference_of u l)
among_asserted u roots (assumed id) ts within i = within (term_at u id) (to_image (term_at u) roots id i)
among_asserted u roots (stepped r ps qs c) ts within i = tt

-- the terms of the clauses are variables, where there is one for each term of the table
store_known : (t : TableView) (log : List Logged) (s : StoreView) (vars : ℕ) → DerivesClauses t log s → length t.terms ≤ vars → LiteralsAreBelow s vars
store_known t log s vars h e k d lt j x small =
    let same : get_or s.clauses k [] ≡ get_or s.clauses k d = get_or_default s.clauses k [] d lt in
    let there = subst (AreLiteralsIn t) same (h.same k lt).there j x small in
    omega (arith, there, e)

-- at level 0 nothing is decided
none_decided : (atoms : List TermId) (clauses : List (List Lit)) (v w : TrailView) → IsLeveled v → v.level ≡ 0 → HasSame v w → AreDecided atoms clauses w
none_decided atoms clauses v w sound level same = record { quiet = λ p lt none. absurd (nothing p lt none); of_atoms = λ p lt none. absurd (nothing p lt none) }
  where
    nothing : (p : ℕ) → p < length w.literals → get_or w.reasons p None ≡ None → ⊥
    nothing p lt none =
        let there : p < length v.literals = omega (arith, lt, ap length same.literals) in
        let above = sound.decided p there (ap (λ (rs : List (Option ℕ)). get_or rs p None) (sym same.reasons) ∙ none) in
        let below = sound.topped p there in
        omega (arith, above, below, level)

-- the atoms of terms of two lists
chosen_both : (t : TableView) (a b c d : List TermId) → AreAtomsAmong t a c → AreAtomsAmong t b d → AreAtomsAmong t (a ++ b) (c ++ d)
chosen_both t a b c d f g = record {
  each = λ id i atom. elim (Contains-append_cases a b id i) [
    | inl j ↦ Contains-append_left c d id (f.each id j atom)
    | inr j ↦ Contains-append_right c d id (g.each id j atom)
  ];
  among = λ id i. elim (Contains-append_cases c d id i) [
    | inl j ↦ Contains-append_left a b id (f.among id j)
    | inr j ↦ Contains-append_right a b id (g.among id j)
  ];
  only = All-append (IsAtomIn t) c d f.only g.only;
}

module _ (t u : TableView) (x y : Search) (roots interface : List TermId) (h : Came t u x y roots interface) where
  -- the problem of what comes in
  abbrev more : Problem
  more = problem_in t roots interface

  -- what came into the log and the store
  abbrev came : Derivation
  came = map (inference_of u) h.grows.more

  abbrev clauses : List (List Lit)
  clauses = h.stores.more

  numbers_in : (k : ℕ) (d : TermId) → k < length x.terms.items → IsIn t (get_or x.terms.items k d)
  numbers_in k d lt = (h.ready.atoms_are.there k d lt).0

  terms_same : clause_at u x.terms.items ≡ clause_at t x.terms.items
  terms_same = clause_at-kept t u h.grows.table x.terms.items numbers_in

  roots_same : clause_at u roots ≡ clause_at t roots
  roots_same = clause_at-kept t u h.grows.table roots (λ k d lt. (h.roots_in k d lt).0)

  -- a term of what comes in is listed
  listed_more : (w : Term) → Contains (whole_terms more) w → Contains (clause_at t x.terms.items) w ⊎ Contains (clause_at u h.terms) w
  listed_more w i = elim (h.new.each w i) [ inl a ↦ inl (subst (λ (ts : List Term). Contains ts w) terms_same a) | inr b ↦ inr b ]

  -- the store's clauses are those of steps
  derives : DerivesClauses u y.log y.store
  derives = h.stores.derives (derives_on t u h.grows.table x.log y.log h.grows.more h.grows.log x.store h.ready.right h.ready.derives)

  as_many : length h.steps ≡ length clauses
  as_many = omega (arith, h.ready.derives.paired, derives.paired, ap length h.stores.clauses, ap length h.stores.steps_are, length-append x.store.steps h.steps, length-append x.store.clauses clauses)

  -- a new clause is that of its step
  image_of : (k : ℕ) → k < length clauses → map (literal_at u) (get_or clauses k []) ≡ literals_of (stated u y.log (get_or h.steps k no_step))
  image_of k lt =
      let n : ℕ = length x.store.clauses + k in
      let in_store : n < length y.store.clauses = omega (arith, lt, ap length h.stores.clauses, length-append x.store.clauses clauses) in
      let clause : get_or y.store.clauses n [] ≡ get_or clauses k [] = ap (λ (cs : List (List Lit)). get_or cs n []) h.stores.clauses ∙ get_or-append-add x.store.clauses clauses k [] in
      let at : n ≡ length x.store.steps + k = omega (arith, h.ready.derives.paired) in
      let step : get_or y.store.steps n no_step ≡ get_or h.steps k no_step =
      ap (λ (ss : List StepId). get_or ss n no_step) h.stores.steps_are ∙ ap (λ (m : ℕ). get_or (x.store.steps ++ h.steps) m no_step) at ∙ get_or-append-add x.store.steps h.steps k no_step in
      sym (ap (map (literal_at u)) clause) ∙ (derives.same n in_store).same
      ∙ ap literals_of (sym (conclusion_there u y.log (get_or y.store.steps n no_step) (derives.there n in_store))) ∙ ap (λ (s : StepId). literals_of (stated u y.log s)) step

  -- the literals of a new clause are the table's
  there_of : (k : ℕ) → k < length clauses → AreLiteralsIn u (get_or clauses k [])
  there_of k lt =
      let n : ℕ = length x.store.clauses + k in
      let in_store : n < length y.store.clauses = omega (arith, lt, ap length h.stores.clauses, length-append x.store.clauses clauses) in
      let clause : get_or y.store.clauses n [] ≡ get_or clauses k [] = ap (λ (cs : List (List Lit)). get_or cs n []) h.stores.clauses ∙ get_or-append-add x.store.clauses clauses k [] in
      subst (AreLiteralsIn u) clause (derives.same n in_store).there

  step_in : (k : ℕ) → k < length clauses → Contains h.steps (get_or h.steps k no_step)
  step_in k lt = Contains-get_or h.steps k no_step (omega (arith, lt, as_many))

  -- what a step states is a root alone, or a clause of a new term
  says : (s : StepId) → Contains h.steps s → Contains (map (λ (w : Term). w ∷ []) (clause_at t roots)) (stated u y.log s) ⊎ Contains (flat_map whole_clauses_of (clause_at u h.terms)) (stated u y.log s)
  says s i = Contains-append_cases (map (λ (w : Term). w ∷ []) (clause_at t roots)) (flat_map whole_clauses_of (clause_at u h.terms)) (stated u y.log s)
      (subst (λ (ts : List Term). Contains (map (λ (w : Term). w ∷ []) ts ++ flat_map whole_clauses_of (clause_at u h.terms)) (stated u y.log s)) roots_same
      (subst (λ (cs : List Clause). Contains cs (stated u y.log s)) h.states.same (to_image (stated u y.log) h.steps s i)))

  -- in a problem that has these terms and roots
  module _ (p : Problem) (asserted : (w : Term) → Contains (clause_at t roots) w → Contains p.asserted w) (whole_more : (w : Term) → Contains (whole_terms more) w → Contains (whole_terms p) w) where
    says_whole : (s : StepId) → Contains h.steps s → Contains (whole_clauses p) (stated u y.log s)
    says_whole s i = elim (says s i) [
      | inl a ↦
          let w = from_image (λ (w : Term). w ∷ []) (clause_at t roots) (stated u y.log s) a in
          subst (Contains (whole_clauses p)) w.2 (among_roots p w.0 (asserted w.0 w.1))
      | inr b ↦
          let w = from_flat whole_clauses_of (clause_at u h.terms) (stated u y.log s) b in
          among_whole p w.0 (stated u y.log s) (whole_more w.0 (h.new.only w.0 w.1)) w.2
    ]

  -- what is stated is a clause of the problem of what comes in
  says_more : (s : StepId) → Contains h.steps s → Contains (whole_clauses more) (stated u y.log s)
  says_more = says_whole more (λ w i. i) (λ w i. i)

  -- the log is that before, and more
  log_is : derivation_in u y.log ≡ derivation_in t x.log ++ came
  log_is = ap (derivation_in u) h.grows.log ∙ map-append (inference_of u) x.log h.grows.more ∙ ap (λ (d : Derivation). d ++ came) (grown_same t u x.log h.ready.right h.grows.table)

  before : length (derivation_in t x.log) ≡ length x.log
  before = length-map x.log (inference_of t)

  -- the clause of a step is the one that came in its place
  stated_at : (k : ℕ) → k < length h.steps → stated u y.log (get_or h.steps k no_step) ≡ conclusion (get_or came k no_inference)
  stated_at k lt =
      let order : (get_or h.steps k no_step).0 ≡ length x.log + k =
      sym (get_or-map (λ (s : StepId). s.0) h.steps k no_step 0 lt) ∙ ap (λ (ns : List ℕ). get_or ns k 0) h.made.order ∙ get_or-range_with_len (length x.log) (length h.steps) k 0 lt in
      ap (λ (n : ℕ). conclusion_at (derivation_in u y.log) n) order ∙ ap (λ (d : Derivation). conclusion_at d (length x.log + k)) log_is
      ∙ ap (λ (n : ℕ). conclusion_at (derivation_in t x.log ++ came) (n + k)) (sym before) ∙ ap conclusion (get_or-append-add (derivation_in t x.log) came k no_inference)

  came_many : length came ≡ length h.steps
  came_many = omega (arith, length-map h.grows.more (inference_of u), h.made.count, ap length h.grows.log, length-append x.log h.grows.more)

  -- the clause of a step is in the store and in the log
  abbrev IsNow : Clause → Type 0
  IsNow c = Contains (images u clauses) (literals_of c) × Contains (map conclusion came) c

  stated_now : (c : Clause) → Contains (map (stated u y.log) h.steps) c → IsNow c
  stated_now c i =
      let s = from_image (stated u y.log) h.steps c i in
      let k : ℕ = s.1.0 in
      let same : get_or h.steps k no_step ≡ s.0 = get_or_default h.steps k no_step s.0 s.1.1 ∙ s.1.2 in
      let says_it : stated u y.log (get_or h.steps k no_step) ≡ c = ap (stated u y.log) same ∙ s.2 in
      let in_store : k < length clauses = omega (arith, s.1.1, as_many) in (
        subst (Contains (images u clauses)) (image_of k in_store ∙ ap literals_of says_it) (to_image (map (literal_at u)) clauses (get_or clauses k []) (Contains-get_or clauses k [] in_store)),
        subst (Contains (map conclusion came)) (sym (stated_at k s.1.1) ∙ says_it)
            (to_image conclusion came (get_or came k no_inference) (Contains-get_or came k no_inference (omega (arith, s.1.1, came_many)))),
      )

  -- so are the roots' and those of the new terms
  root_now : (w : Term) → Contains (clause_at t roots) w → IsNow (w ∷ [])
  root_now w i = stated_now (w ∷ []) (subst (λ (cs : List Clause). Contains cs (w ∷ [])) (sym h.states.same)
      (Contains-append_left (map (λ (v : Term). v ∷ []) (clause_at u roots)) (flat_map whole_clauses_of (clause_at u h.terms)) (w ∷ [])
      (to_image (λ (v : Term). v ∷ []) (clause_at u roots) w (subst (λ (ts : List Term). Contains ts w) (sym roots_same) i))))

  term_now : (w : Term) (c : Clause) → Contains (clause_at u h.terms) w → Contains (whole_clauses_of w) c → IsNow c
  term_now w c i j = stated_now c (subst (λ (cs : List Clause). Contains cs c) (sym h.states.same)
      (Contains-append_right (map (λ (v : Term). v ∷ []) (clause_at u roots)) (flat_map whole_clauses_of (clause_at u h.terms)) c (in_flat whole_clauses_of (clause_at u h.terms) w c i j)))

  -- the clauses that were there mean what they did
  stored_in : AreAllOf t x.store.clauses
  stored_in k d lt = subst (AreLiteralsIn t) (get_or_default x.store.clauses k [] d lt) (h.ready.derives.same k lt).there

  images_are : images u y.store.clauses ≡ images t x.store.clauses ++ images u clauses
  images_are = ap (images u) h.stores.clauses ∙ map-append (map (literal_at u)) x.store.clauses clauses
      ∙ ap (λ (cs : List (List Literal)). cs ++ images u clauses) (images_kept t u h.grows.table x.store.clauses stored_in)

  learned_are : images u y.budget.learned ≡ images t x.budget.learned
  learned_are = ap (images u) h.learned ∙ images_kept t u h.grows.table x.budget.learned h.ready.learned

  -- and equalities of shared numbers leave facts as they are
  pub apart_wider : (q : Problem) (earlier : List (List Literal)) → HoldsApart t q earlier x → (more : List Term) → All (IsSharedEquality (subterms_in q)) more → HoldsApart u (speaking_of q more) earlier y
  apart_wider q earlier holds more shared = apart_grown t u x y
      (λ c i. subst (λ (cs : List (List Literal)). Contains cs c) (sym images_are) (Contains-append_left (images t x.store.clauses) (images u clauses) c i)) q earlier holds more shared learned_are

  -- and so do more roots, too
  pub apart_with_more : (q : Problem) (earlier : List (List Literal)) → HoldsApart t q earlier x → (all more : List Term) → All (IsSharedEquality (subterms_in (asserting_too q all []))) more → HoldsApart u (asserting_too q all more) earlier y
  apart_with_more q earlier holds all more shared = apart_rooted t u x y
      (λ c i. subst (λ (cs : List (List Literal)). Contains cs c) (sym images_are) (Contains-append_left (images t x.store.clauses) (images u clauses) c i)) q earlier holds all more shared learned_are

  module _ (p : Problem) (earlier : List (List Literal)) (part : IsPart t x roots interface earlier p) where
    abbrev d : Derivation
    d = derivation_in t x.log

    abbrev old : List (List Literal)
    old = images t x.store.clauses

    abbrev learned : List (List Literal)
    learned = images t x.budget.learned

    states_whole : All (λ i. Contains (whole_clauses p) (conclusion i)) came
    states_whole k e lt =
        let small : k < length h.steps = omega (arith, lt, came_many) in
        let same : stated u y.log (get_or h.steps k no_step) ≡ conclusion (get_or came k e) = stated_at k small ∙ ap conclusion (get_or_default came k no_inference e lt) in
        subst (Contains (whole_clauses p)) same (says_whole p part.asserted part.more (get_or h.steps k no_step) (Contains-get_or h.steps k no_step small))

    assumes : All (AssumesAmong (terms_of_problem p)) (d ++ came)
    assumes = All-append (AssumesAmong (terms_of_problem p)) d came part.derived.assumes
        (All-map (AssumesAmong (terms_of_problem p)) (inference_of u) h.grows.more (λ k e lt. among_asserted u roots (get_or h.grows.more k e) (terms_of_problem p)
        (λ w i. Contains-append_left p.asserted p.assumed w (part.asserted w (subst (λ (ts : List Term). Contains ts w) roots_same i))) (h.grows.assumes k e lt)))

    comes_before : (c : List Literal) → ComesFrom p d (earlier ++ learned) c → ComesFrom p (d ++ came) (earlier ++ learned) c
    comes_before c from = elim from [ inl i ↦ inl i | inr l ↦ inr (has_lemma_onward d came (whole_terms p) c l) ]

    comes_now : (c : List Literal) → Contains (images u clauses) c → ComesFrom p (d ++ came) (earlier ++ learned) c
    comes_now c i =
        let e = from_image (map (literal_at u)) clauses c i in
        let k : ℕ = e.1.0 in
        let same : get_or clauses k [] ≡ e.0 = get_or_default clauses k [] e.0 e.1.1 ∙ e.1.2 in
        let is : literals_of (stated u y.log (get_or h.steps k no_step)) ≡ c = sym (image_of k e.1.1) ∙ ap (map (literal_at u)) same ∙ e.2 in
        inl (Contains-append_left (map literals_of (whole_clauses p)) (earlier ++ learned) c
        (subst (Contains (map literals_of (whole_clauses p))) is
        (to_image literals_of (whole_clauses p) (stated u y.log (get_or h.steps k no_step)) (says_whole p part.asserted part.more (get_or h.steps k no_step) (step_in k e.1.1)))))

    derived_now : HasDerived p (d ++ came) (old ++ images u clauses) earlier learned
    derived_now = record {
      assumes = assumes;
      only = λ c i. elim (Contains-append_cases old (images u clauses) c i) [ inl a ↦ comes_before c (part.derived.only c a) | inr b ↦ comes_now c b ];
      kept = λ c i. Contains-append_left old (images u clauses) c (part.derived.kept c i);
      derived = All-weaker (IsLearnedFrom p d) (IsLearnedFrom p (d ++ came)) (learned_onward d came h.ready.right.right p) (earlier ++ learned) part.derived.derived;
      atoms = part.derived.atoms;
      new = part.derived.new;
      exact = resolvents_more complement (IsInput p d) (IsInput p (d ++ came)) (input_onward d came p) (earlier ++ learned) part.derived.exact;
      steps = steps_stating p d came (earlier ++ learned) part.derived.steps states_whole;
    }

    -- each clause of the problem is there
    abbrev IsThere : Clause → Type 0
    IsThere c = Contains (old ++ images u clauses) (literals_of c) × Contains (map conclusion (d ++ came)) c

    from_had : (c : Clause) → IsHad t x c → IsThere c
    from_had c i = (
      Contains-append_left old (images u clauses) (literals_of c) i.0,
      subst (λ (cs : List Clause). Contains cs c) (sym (map-append conclusion d came)) (Contains-append_left (map conclusion d) (map conclusion came) c i.1),
    )

    from_now : (c : Clause) → IsNow c → IsThere c
    from_now c i = (
      Contains-append_right old (images u clauses) (literals_of c) i.0,
      subst (λ (cs : List Clause). Contains cs c) (sym (map-append conclusion d came)) (Contains-append_right (map conclusion d) (map conclusion came) c i.1),
    )

    root_there : (w : Term) → Contains p.asserted w → IsThere (w ∷ [])
    root_there w i = elim (part.alone w i) [ inl a ↦ from_had (w ∷ []) a | inr b ↦ from_now (w ∷ []) (root_now w b) ]

    term_there : (w : Term) (c : Clause) → Contains (whole_terms p) w → Contains (whole_clauses_of w) c → IsThere c
    term_there w c i j = elim (part.each w i) [
      | inl a ↦ from_had c (part.known w c a j)
      | inr b ↦ elim (listed_more w b) [ inl a ↦ from_had c (part.known w c a j) | inr e ↦ from_now c (term_now w c e j) ]
    ]

    there : (c : Clause) → Contains (whole_clauses p) c → IsThere c
    there c i = elim (Contains-append_cases (map (λ (w : Term). w ∷ []) p.asserted) (flat_map whole_clauses_of (whole_terms p)) c i) [
      | inl a ↦ let w = from_image (λ (w : Term). w ∷ []) p.asserted c a in subst IsThere w.2 (root_there w.0 w.1)
      | inr b ↦ let w = from_flat whole_clauses_of (whole_terms p) c b in term_there w.0 c w.1 w.2
    ]

    listed : AreSearchTerms u p (x.terms.items ++ h.terms)
    listed =
        let split : clause_at u (x.terms.items ++ h.terms) ≡ clause_at t x.terms.items ++ clause_at u h.terms =
        map-append (term_at u) x.terms.items h.terms ∙ ap (λ (ts : List Term). ts ++ clause_at u h.terms) terms_same in
        record {
          there = All-append (IsTermIn u) x.terms.items h.terms (λ k e lt. term_kept t u h.grows.table h.grows.declared (get_or x.terms.items k e) (h.ready.atoms_are.there k e lt)) h.new.there;
          each = λ w i. subst (λ (ts : List Term). Contains ts w) (sym split) (elim (part.each w i) [
            | inl a ↦ Contains-append_left (clause_at t x.terms.items) (clause_at u h.terms) w a
            | inr b ↦ elim (listed_more w b) [
              | inl a ↦ Contains-append_left (clause_at t x.terms.items) (clause_at u h.terms) w a
              | inr e ↦ Contains-append_right (clause_at t x.terms.items) (clause_at u h.terms) w e
            ]
          ]);
          only = λ w i. elim (Contains-append_cases (clause_at t x.terms.items) (clause_at u h.terms) w (subst (λ (ts : List Term). Contains ts w) split i)) [
            | inl a ↦ part.spoken w a
            | inr b ↦ part.more w (h.new.only w b)
          ];
          once = all_once;
        }
      where
        all_once : AllPairs (λ (i j : TermId). i ≢ j) (x.terms.items ++ h.terms)
        all_once = pairs_append (λ (i j : TermId). i ≢ j) x.terms.items h.terms h.ready.atoms_are.once (rising_once h.terms h.new.rising)
            (λ a b a_in b_in e. h.new.new b b_in (subst (Contains x.terms.items) e a_in))

    -- so the search is one of the problem
    pub search_grown : IsSearch u p earlier y
    search_grown =
        let wide : Widens t u = record { terms = h.grows.table; declared = h.grows.declared } in
        record {
          roots = part.all;
          roots_in = λ k e lt. formula_kept t u wide (get_or part.all k e) (part.all_in k e lt);
          interface = part.beside;
          interface_in = λ k e lt. formula_kept t u wide (get_or part.beside k e) (part.beside_in k e lt);
          meant = problem_kept t u h.grows.table part.all part.beside part.all_in part.beside_in ∙ part.meant;
          answered = part.answered;
          listed = subst (AreSearchTerms u p) (sym h.terms_are) listed;
          derived = subst (λ (e : Derivation). HasDerived p e (images u y.store.clauses) earlier (images u y.budget.learned)) (sym log_is)
              (subst (λ (cs : List (List Literal)). HasDerived p (d ++ came) cs earlier (images u y.budget.learned)) (sym images_are)
              (subst (λ (ls : List (List Literal)). HasDerived p (d ++ came) (old ++ images u clauses) earlier ls) (sym learned_are) derived_now));
          began = subst (λ (e : Derivation). BeganAfter p y.since e earlier) (sym log_is)
              (subst (λ (n : ℕ). BeganAfter p n (d ++ came) earlier) (sym h.since) (began_onward p x.since d came earlier part.began));
          whole = subst (λ (e : Derivation). HasWholeClauses p e (images u y.store.clauses)) (sym log_is)
              (subst (λ (cs : List (List Literal)). HasWholeClauses p (d ++ came) cs) (sym images_are)
              (record { base = λ c i. (there c i).0; stated = λ c i. (there c i).1 }));
        }

  -- with a term its arguments are listed
  closed : IsClosed (clause_at u (x.terms.items ++ h.terms))
  closed v i w j =
      let split : clause_at u (x.terms.items ++ h.terms) ≡ clause_at t x.terms.items ++ clause_at u h.terms =
      map-append (term_at u) x.terms.items h.terms ∙ ap (λ (ts : List Term). ts ++ clause_at u h.terms) terms_same in
      subst (λ (ts : List Term). Contains ts w) (sym split)
      (elim (Contains-append_cases (clause_at t x.terms.items) (clause_at u h.terms) v (subst (λ (ts : List Term). Contains ts v) split i)) [
        | inl a ↦ Contains-append_left (clause_at t x.terms.items) (clause_at u h.terms) w (h.ready.atoms_are.closed v a w j)
        | inr b ↦ elim (listed_more w (whole_closed more v w (h.new.only v b) j)) [
          | inl a ↦ Contains-append_left (clause_at t x.terms.items) (clause_at u h.terms) w a
          | inr e ↦ Contains-append_right (clause_at t x.terms.items) (clause_at u h.terms) w e
        ]
      ])

  module _ (seen : (s : StoreView) (v w : TrailView) → HasSeen s v → HasSame v w → w.propagated ≡ v.propagated → HasSeen s w) (implied : (s : StoreView) (v w : TrailView) → AreImplied s v → HasSame v w → AreImplied s w)
      (atoms : List TermId) (chosen : AreAtomsAmong u h.terms atoms) where
    was : AreAtomsOf u x.terms.items x.atoms.items
    was = atoms_kept t u h.grows.table h.grows.declared x.terms.items x.atoms.items h.ready.atoms_are

    both : AreAtomsAmong u (x.terms.items ++ h.terms) (x.atoms.items ++ atoms)
    both = chosen_both u x.terms.items h.terms x.atoms.items atoms was.chosen chosen

    atoms_of_both : AreAtomsOf u (x.terms.items ++ h.terms) (x.atoms.items ++ atoms)
    atoms_of_both = record {
      there = All-append (IsTermIn u) x.terms.items h.terms was.there h.new.there;
      closed = closed;
      once = pairs_append (λ (i j : TermId). i ≢ j) x.terms.items h.terms h.ready.atoms_are.once (rising_once h.terms h.new.rising)
          (λ a b a_in b_in e. h.new.new b b_in (subst (Contains x.terms.items) e a_in));
      chosen = both;
    }

    -- a literal of a new clause is over an atom
    atom_of : (k : ℕ) (l : Lit) → k < length clauses → Contains (get_or clauses k []) l → Contains (x.atoms.items ++ atoms) l.term
    atom_of k l lt i =
        let s : StepId = get_or h.steps k no_step in
        let inside : IsIn u l.term = All-contains (λ (m : Lit). IsIn u m.term) (get_or clauses k []) l (there_of k lt) i in
        let z = literal_at u l in
        let image : Contains (literals_of (stated u y.log s)) z = subst (λ (ls : List Literal). Contains ls z) (image_of k lt) (to_image (literal_at u) (get_or clauses k []) l i) in
        let in_log : s.0 < length y.log = h.states.there k no_step (omega (arith, lt, as_many)) in
        let formulas = h.grows.right.formulas s.0 no_logged in_log in
        let bare = bare_in u (named (logged_at y.log s)) formulas l inside (subst (λ (c : Clause). Contains (literals_of c) z) (conclusion_there u y.log s in_log) image) in
        let spoken : Contains (whole_terms more) (term_at u l.term) = whole_over more (stated u y.log s) z (says_more s (step_in k lt)) image in
        let listed : Contains (clause_at u (x.terms.items ++ h.terms)) (term_at u l.term) =
        subst (λ (ts : List Term). Contains ts (term_at u l.term)) (sym (map-append (term_at u) x.terms.items h.terms)) (elim (h.new.each (term_at u l.term) spoken) [
          | inl a ↦ Contains-append_left (clause_at u x.terms.items) (clause_at u h.terms) (term_at u l.term) a
          | inr b ↦ Contains-append_right (clause_at u x.terms.items) (clause_at u h.terms) (term_at u l.term) b
        ]) in
        let number = from_image (term_at u) (x.terms.items ++ h.terms) (term_at u l.term) listed in
        let own : number.0 ≡ l.term = same_numbers u h.differ number.0 l.term (All-contains (IsTermIn u) (x.terms.items ++ h.terms) number.0 atoms_of_both.there number.1).0 inside number.2 in
        both.each l.term (subst (Contains (x.terms.items ++ h.terms)) own number.1) ((inside, bare.formula), bare.bare)

    covered_both : AreCovered (x.atoms.items ++ atoms) y.store.clauses
    covered_both c l i j = elim (Contains-append_cases x.store.clauses clauses c (subst (λ (cs : List (List Lit)). Contains cs c) h.stores.clauses i)) [
      | inl a ↦ Contains-append_left x.atoms.items atoms l.term (h.ready.covered c l a j)
      | inr b ↦
          let same : get_or clauses b.0 [] ≡ c = get_or_default clauses b.0 [] c b.1 ∙ b.2 in
          atom_of b.0 l b.1 (subst (λ (e : List Lit). Contains e l) (sym same) j)
    ]

    -- what was learned is over the table
    learned_in : AreAllOf u y.budget.learned
    learned_in = subst (AreAllOf u) (sym h.learned) (λ k e lt. of_kept t u h.grows.table (get_or x.budget.learned k e) (h.ready.learned k e lt))

    variables_in : (vars : ℕ) → length u.terms ≤ vars → All (λ (id : TermId). id.0 < vars) (x.terms.items ++ h.terms)
    variables_in vars le k e lt = let inside = (atoms_of_both.there k e lt).0 in omega (arith, inside, le)

    -- so it fits together
    module _ (atoms_are : y.atoms.items ≡ x.atoms.items ++ atoms) (reached : Reaches u x.trail y.trail) (leveled : IsLeveled x.trail) (level : x.trail.level ≡ 0) (waits : AreWaiting (x.atoms.items ++ atoms) x.trail.literals y.decider) (size : length y.decider ≡ y.trail.vars) where
      pub fits_grown : SearchFits u y
      fits_grown = record {
        right = h.grows.right;
        derives = derives;
        known = store_known u y.log y.store y.trail.vars derives reached.vars;
        seen = h.stores.seen y.trail (seen x.store x.trail y.trail h.ready.seen reached.same reached.propagated);
        implied = h.stores.implied y.trail h.ready.derives.paired (implied x.store x.trail y.trail h.ready.implied reached.same);
        decided = none_decided y.atoms.items y.store.clauses x.trail y.trail leveled level reached.same;
        atoms_are = subst (λ (ids : List TermId). AreAtomsOf u ids y.atoms.items) (sym h.terms_are) (subst (AreAtomsOf u (x.terms.items ++ h.terms)) (sym atoms_are) atoms_of_both);
        variables = subst (All (λ (id : TermId). id.0 < y.trail.vars)) (sym h.terms_are) (variables_in y.trail.vars reached.vars);
        covered = subst (λ (ids : List TermId). AreCovered ids y.store.clauses) (sym atoms_are) covered_both;
        waiting = subst (λ (ids : List TermId). AreWaiting ids y.trail.literals y.decider) (sym atoms_are)
            (subst (λ (ls : List Lit). AreWaiting (x.atoms.items ++ atoms) ls y.decider) (sym reached.same.literals) waits);
        sized = size;
        learned = learned_in;
      }
