-- What a derivation says with further inferences.
use Rattle.std.proofs.Common.{◌≡◌, ℕ, ◌+◌, ◌-◌, ◌<◌, ◌≤◌, List, [], ◌∷◌, ◌++◌, length, get_or, map, take, All, Contains, sym, ap, ◌∙◌, subst, arith, refl}
use Rattle.std.proofs.lemmas.List.{append_assoc, length-append, length-map, length-take-le, take-append-le, map-append, get_or-map, get_or_append_left, get_or-append-add}
use Rattle.std.proofs.lemmas.Bool.{cases_lt}
use Rattle.std.proofs.lemmas.List.Elements.{All-push, All-append, Contains-append_left, Contains-push_cases, Contains-push, Contains-append_cases, Contains-append_right}
use Rattle.std.proofs.Math.Seq.{get_or-append_seam}
use Rattle.std.specs.Prelude.{◌⊎◌}
use Rattle.std.proofs.Common.{inl, inr}
use Rattle.spec_text.proofs.Members.{to_image, from_image}
use Rattle.spec_text.specs.Trees.{none as no_texts}
use Rattle.spec_sorts.specs.Terms.{Term}
use Rattle.spec_sorts.specs.Literals.{Clause, Literal, complement, literals_of}
use Rattle.spec_derivations.specs.Problems.{Problem, terms_of_problem}
use Rattle.spec_derivations.specs.Derivations.{Inference, «assumption», by_rule, Derivation, no_inference, inference_at, premises_of, conclusion, conclusion_at, IsDerivation, AssumesAmong, IsDerivedFrom}
use Rattle.spec_proofs.specs.Resolution.{IsWithin}
use Rattle.spec_proofs.specs.declared.Rule.TheVariants.{Resolution}
use Rattle.spec_derivations.specs.Orders.{whole_terms, whole_clauses}
use Rattle.spec_derivations.specs.Lemmas.{IsLemma, HasLemma}
use Rattle.spec_derivations.specs.Inputs.{IsInput}
use Rattle.spec_derivations.specs.ExactChains.{IsExactFrom, IsExactResolvent, AreExactResolvents}
use Rattle.spec_derivations.specs.Learned.{IsNew}
use Rattle.spec_derivations.specs.Spent.{IsLearnedFrom, IsOverAtoms, at_start}
use Rattle.spec_derivations.proofs.Derivations.{follows_at}
use Rattle.spec_derivations.proofs.Exact.{chain_more, resolvents_more, resolvents_pushed}
use Rattle.spec_derivations.proofs.Grown.{whole_is_input}
use Rattle.spec_derivations.proofs.Onward.{new_pushed, has_lemma_onward, input_onward}
use Rattle.spec_derivations.proofs.Spending.{depends_there, premises_before}
use Rattle.search_loop.specs.Rounds.{IsNoWeaker, AreSteps, nothing, stating as one_stated, lemmas as some_lemmas, learning as one_learned, ComesFrom, HasDerived, BeganAfter, HasWholeClauses}

-- a derivation whose assumptions are all among terms
module _ (problem : Problem) (d : Derivation) (right : IsDerivation d) (among : All (AssumesAmong (terms_of_problem problem)) d) where
  -- each of its numbers is derived from the terms
  pub derived_from : (n : ℕ) → n < length d → IsDerivedFrom (terms_of_problem problem) d n
  derived_from n lt = record { there = lt; assumptions = λ m depends. among m no_inference (depends_there d right n m lt depends) }

-- what is stated, is stated where more is derived
pub stated_on : (cs : List Clause) (d more : Derivation) → IsWithin cs (map conclusion d) → IsWithin cs (map conclusion (d ++ more))
stated_on cs d more h c i = subst (λ (xs : List Clause). Contains xs c) (sym (map-append conclusion d more)) (Contains-append_left (map conclusion d) (map conclusion more) c (h c i))

-- so are all clauses with which a search begins, and among more clauses
pub whole_on : (problem : Problem) (d more : Derivation) (cs others : List (List Literal)) → HasWholeClauses problem d cs → HasWholeClauses problem (d ++ more) (cs ++ others)
whole_on problem d more cs others h = record {
  base = λ c i. Contains-append_left cs others (literals_of c) (h.base c i);
  stated = stated_on (whole_clauses problem) d more h.stated;
}

-- a clause comes from where it did, where more is derived and learned
pub comes_on : (problem : Problem) (d more : Derivation) (ls others : List (List Literal)) (c : List Literal) → ComesFrom problem d ls c → ComesFrom problem (d ++ more) (ls ++ others) c
comes_on problem d more ls others c from = elim from [
  | inl i ↦ inl (elim (Contains-append_cases (map literals_of (whole_clauses problem)) ls c i) [
    | inl b ↦ Contains-append_left (map literals_of (whole_clauses problem)) (ls ++ others) c b
    | inr l ↦ Contains-append_right (map literals_of (whole_clauses problem)) (ls ++ others) c (Contains-append_left ls others c l)
  ])
  | inr h ↦ inr (has_lemma_onward d more (whole_terms problem) c h)
]

-- and where more is derived alone
pub comes_still : (problem : Problem) (d more : Derivation) (ls : List (List Literal)) (c : List Literal) → ComesFrom problem d ls c → ComesFrom problem (d ++ more) ls c
comes_still problem d more ls c from = elim from [ inl i ↦ inl i | inr h ↦ inr (has_lemma_onward d more (whole_terms problem) c h) ]

-- a clause that is stated, or learned, comes from there
pub comes_stated : (problem : Problem) (d : Derivation) (ls : List (List Literal)) (c : Clause) → Contains (whole_clauses problem) c → ComesFrom problem d ls (literals_of c)
comes_stated problem d ls c i = inl (Contains-append_left (map literals_of (whole_clauses problem)) ls (literals_of c) (to_image literals_of (whole_clauses problem) c i))

pub comes_learned : (problem : Problem) (d : Derivation) (ls : List (List Literal)) (c : List Literal) → Contains ls c → ComesFrom problem d ls c
comes_learned problem d ls c i = inl (Contains-append_right (map literals_of (whole_clauses problem)) ls c i)

-- the clause of the k-th inference comes from there
abbrev Comes : Problem → Derivation → List (List Literal) → ℕ → Type 0
Comes problem d ls k = ComesFrom problem d ls (literals_of (conclusion_at d k))

early_comes : (problem : Problem) (xs ys : Derivation) (ls others : List (List Literal)) (k : ℕ) → k < length xs → Comes problem xs ls k → Comes problem (xs ++ ys) (ls ++ others) k
early_comes problem xs ys ls others k lt from =
    subst (λ (x : Inference). ComesFrom problem (xs ++ ys) (ls ++ others) (literals_of (conclusion x))) (sym (get_or_append_left xs ys no_inference k lt))
    (comes_on problem xs ys ls others (literals_of (conclusion_at xs k)) from)

early_still : (problem : Problem) (xs ys : Derivation) (ls : List (List Literal)) (k : ℕ) → k < length xs → Comes problem xs ls k → Comes problem (xs ++ ys) ls k
early_still problem xs ys ls k lt from =
    subst (λ (x : Inference). ComesFrom problem (xs ++ ys) ls (literals_of (conclusion x))) (sym (get_or_append_left xs ys no_inference k lt))
    (comes_still problem xs ys ls (literals_of (conclusion_at xs k)) from)

-- the last one
last_at : (xs : Derivation) (x : Inference) (k : ℕ) → length xs ≤ k → k < length (xs ++ x ∷ []) → x ≡ inference_at (xs ++ x ∷ []) k
last_at xs x k late lt =
    let is : k ≡ length xs = omega (arith, lt, late, length-append xs (x ∷ [])) in
    sym (get_or-append_seam xs x [] no_inference) ∙ ap (inference_at (xs ++ x ∷ [])) (sym is)

-- those of a batch
module _ (ts : List Term) (xs ys : Derivation) (all : All (IsLemma ts (xs ++ ys) (length xs)) ys) where
  in_batch : (n : ℕ) → length xs ≤ n → n < length (xs ++ ys) → IsLemma ts (xs ++ ys) (length xs) (inference_at (xs ++ ys) n)
  in_batch n from lt =
      let is : length xs + (n - length xs) ≡ n = omega (arith, from) in
      let there : inference_at ys (n - length xs) ≡ inference_at (xs ++ ys) n = sym (get_or-append-add xs ys (n - length xs) no_inference) ∙ ap (inference_at (xs ++ ys)) is in
      subst (IsLemma ts (xs ++ ys) (length xs)) there (all (n - length xs) no_inference (omega (arith, lt, from, length-append xs ys)))

  lemma_in : (k : ℕ) → length xs ≤ k → k < length (xs ++ ys) → HasLemma ts (xs ++ ys) (literals_of (conclusion_at (xs ++ ys) k))
  lemma_in k late lt = record {
    number = k;
    there = lt;
    since = length xs;
    begun = late;
    batch = λ n from to. in_batch n from (omega (arith, to, lt));
    same = refl;
  }

-- a search begins with the clause of an inference, or learned it, or it is that of a lemma
pub each_comes : (problem : Problem) (d : Derivation) (ls : List (List Literal)) → AreSteps problem d ls → (k : ℕ) → k < length d → ComesFrom problem d ls (literals_of (conclusion_at d k))
each_comes problem _ _ nothing k lt = absurd (omega (arith, lt))
each_comes problem _ _ (one_stated xs x cs before i) k lt = elim (cases_lt k (length xs)) [
  | inl early ↦ early_still problem xs (x ∷ []) cs k early (each_comes problem xs cs before k early)
  | inr late ↦ subst (λ (y : Inference). ComesFrom problem (xs ++ x ∷ []) cs (literals_of (conclusion y))) (last_at xs x k late lt) (comes_stated problem (xs ++ x ∷ []) cs (conclusion x) i)
]
each_comes problem _ _ (some_lemmas xs ys cs before all) k lt = elim (cases_lt k (length xs)) [
  | inl early ↦ early_still problem xs ys cs k early (each_comes problem xs cs before k early)
  | inr late ↦ inr (lemma_in (whole_terms problem) xs ys all k late lt)
]
each_comes problem _ _ (one_learned xs x cs before by exact) k lt = elim (cases_lt k (length xs)) [
  | inl early ↦ early_comes problem xs (x ∷ []) cs (literals_of (conclusion x) ∷ []) k early (each_comes problem xs cs before k early)
  | inr late ↦
      let ls = cs ++ literals_of (conclusion x) ∷ [] in
      subst (λ (y : Inference). ComesFrom problem (xs ++ x ∷ []) ls (literals_of (conclusion y))) (last_at xs x k late lt)
      (comes_learned problem (xs ++ x ∷ []) ls (literals_of (conclusion x)) (Contains-push cs (literals_of (conclusion x))))
]

-- so a search may learn from it
pub comes_given : (problem : Problem) (d : Derivation) (ls : List (List Literal)) (c : List Literal) → ComesFrom problem d ls c → IsInput problem d c ⊎ Contains ls c
comes_given problem d ls c from = elim from [
  | inl i ↦ elim (Contains-append_cases (map literals_of (whole_clauses problem)) ls c i) [
    | inl b ↦ let w = from_image literals_of (whole_clauses problem) c b in inl (subst (IsInput problem d) w.2 (whole_is_input problem d w.0 w.1))
    | inr l ↦ inr l
  ]
  | inr h ↦ inl (inr h)
]

-- what holds of all images holds of the images of all
pub all_back : {A B : Type 0} (f : A → B) (P : B → Type 0) (xs : List A) → All P (map f xs) → All (λ x. P (f x)) xs
all_back f P xs h k d lt = subst P (get_or-map f xs k d (f d) lt) (h k (f d) (rw length-map lt))

-- where more is derived, a check began where it did
pub began_onward : (problem : Problem) (n : ℕ) (d more : Derivation) (earlier : List (List Literal)) → BeganAfter problem n d earlier → BeganAfter problem n (d ++ more) earlier
began_onward problem n d more earlier h = record {
  there = omega (arith, h.there, length-append d more);
  steps = subst (λ (e : Derivation). AreSteps problem e earlier) (sym (take-append-le n d more h.there)) h.steps;
}

-- the derivation goes on, and nothing is learned
module _ (problem : Problem) (d more : Derivation) (cs earlier ls : List (List Literal)) (h : HasDerived problem d cs earlier ls) (right : IsDerivation (d ++ more)) (among : All (AssumesAmong (terms_of_problem problem)) more) where
  among_onward : All (AssumesAmong (terms_of_problem problem)) (d ++ more)
  among_onward = All-append (AssumesAmong (terms_of_problem problem)) d more h.assumes among

  learned_still : (c : List Literal) → IsLearnedFrom problem d c → IsLearnedFrom problem (d ++ more) c
  learned_still c l =
      let lt : l.number < length (d ++ more) = omega (arith, l.derived.there, length-append d more) in
      record { number = l.number; derived = derived_from problem (d ++ more) right among_onward l.number lt; same = ap (λ (x : Inference). literals_of (conclusion x)) (get_or_append_left d more no_inference l.number l.derived.there) ∙ l.same }

  pub derived_onward : AreSteps problem (d ++ more) (earlier ++ ls) → HasDerived problem (d ++ more) cs earlier ls
  derived_onward steps = record {
    assumes = among_onward;
    only = λ c i. comes_still problem d more (earlier ++ ls) c (h.only c i);
    kept = h.kept;
    derived = λ k e lt. learned_still (get_or (earlier ++ ls) k e) (h.derived k e lt);
    atoms = h.atoms;
    new = h.new;
    exact = resolvents_more complement (IsInput problem d) (IsInput problem (d ++ more)) (input_onward d more problem) (earlier ++ ls) h.exact;
    steps = steps;
  }

-- a clause is stated with which a search begins
pub derived_stated : (problem : Problem) (d : Derivation) (cs earlier ls : List (List Literal)) → HasDerived problem d cs earlier ls → (x : Inference) → IsDerivation (d ++ x ∷ []) → AssumesAmong (terms_of_problem problem) x
    → Contains (whole_clauses problem) (conclusion x) → HasDerived problem (d ++ x ∷ []) cs earlier ls
derived_stated problem d cs earlier ls h x right among i = derived_onward problem d (x ∷ []) cs earlier ls h right (All-push (AssumesAmong (terms_of_problem problem)) [] x (λ k e lt. absurd (omega (arith, lt))) among) (one_stated d x (earlier ++ ls) h.steps i)

-- lemmas come
no_assumption : (problem : Problem) (d : Derivation) (n : ℕ) (x : Inference) → IsLemma (whole_terms problem) d n x → AssumesAmong (terms_of_problem problem) x
no_assumption problem d n («assumption» t) i = absurd i
no_assumption problem d n (by_rule r ps given c) i = tt

pub derived_lemmas : (problem : Problem) (d : Derivation) (cs earlier ls : List (List Literal)) → HasDerived problem d cs earlier ls → (more : Derivation) → IsDerivation (d ++ more) → All (IsLemma (whole_terms problem) (d ++ more) (length d)) more → HasDerived problem (d ++ more) cs earlier ls
derived_lemmas problem d cs earlier ls h more right lemmas =
    derived_onward problem d more cs earlier ls h right (λ k e lt. no_assumption problem (d ++ more) (length d) (get_or more k e) (lemmas k e lt)) (some_lemmas d more (earlier ++ ls) h.steps lemmas)

-- the clause of an inference comes into the clauses
pub derived_stored : (problem : Problem) (d : Derivation) (cs earlier ls : List (List Literal)) → HasDerived problem d cs earlier ls → (k : ℕ) → k < length d → HasDerived problem d (cs ++ literals_of (conclusion_at d k) ∷ []) earlier ls
derived_stored problem d cs earlier ls h k lt =
    let x = literals_of (conclusion_at d k) in
    record {
      assumes = h.assumes;
      only = λ c i. elim (Contains-push_cases cs x c i) [
        | inl was ↦ h.only c was
        | inr is ↦ subst (ComesFrom problem d (earlier ++ ls)) is (each_comes problem d (earlier ++ ls) h.steps k lt)
      ];
      kept = λ c i. Contains-append_left cs (x ∷ []) c (h.kept c i);
      derived = h.derived;
      atoms = h.atoms;
      new = h.new;
      exact = h.exact;
      steps = h.steps;
    }

-- a clause more comes by resolution
module _ (problem : Problem) (d : Derivation) (cs earlier ls : List (List Literal)) (h : HasDerived problem d cs earlier ls) (ps : List ℕ) (clause : Clause) (right : IsDerivation (d ++ by_rule Resolution ps no_texts clause ∷ [])) where
  abbrev inference : Inference
  inference = by_rule Resolution ps no_texts clause

  -- what was learned in all, before and after
  abbrev all : List (List Literal)
  all = earlier ++ ls

  together : all ++ literals_of clause ∷ [] ≡ earlier ++ (ls ++ literals_of clause ∷ [])
  together = append_assoc earlier ls (literals_of clause ∷ [])

  none_assumed : All (AssumesAmong (terms_of_problem problem)) (inference ∷ [])
  none_assumed = All-push (AssumesAmong (terms_of_problem problem)) [] inference (λ k e lt. absurd (omega (arith, lt))) tt

  pub among_more : All (AssumesAmong (terms_of_problem problem)) (d ++ inference ∷ [])
  among_more = among_onward problem d (inference ∷ []) cs earlier ls h right none_assumed

  pub last_derived : IsDerivedFrom (terms_of_problem problem) (d ++ inference ∷ []) (length d)
  last_derived = derived_from problem (d ++ inference ∷ []) right among_more (length d) (omega (arith, length-append d (inference ∷ [])))

  pub last_concludes : conclusion_at (d ++ inference ∷ []) (length d) ≡ clause
  last_concludes = ap conclusion (get_or-append_seam d inference [] no_inference)

  pub derived_kept : All (IsLearnedFrom problem (d ++ inference ∷ [])) (earlier ++ ls)
  derived_kept k e lt = learned_still problem d (inference ∷ []) cs earlier ls h right none_assumed (get_or all k e) (h.derived k e lt)

  -- what was learned is exact still
  pub exact_kept : AreExactResolvents complement (IsInput problem (d ++ inference ∷ [])) (earlier ++ ls)
  exact_kept = resolvents_more complement (IsInput problem d) (IsInput problem (d ++ inference ∷ [])) (input_onward d (inference ∷ []) problem) all h.exact

  -- a premise has a clause from which the search may learn
  premise_there : (n : ℕ) → Contains ps n → n < length d
  premise_there n i =
      let e = d ++ inference ∷ [] in
      let within : length d < length e = omega (arith, length-append d (inference ∷ [])) in
      let own : Contains (premises_of (inference_at e (length d))) n = subst (λ (x : Inference). Contains (premises_of x) n) (sym (get_or-append_seam d inference [] no_inference)) i in
      let less = premises_before (take (length d) e) (inference_at e (length d)) n (follows_at e right (length d) within) own in
      omega (arith, less, length-take-le (length d) e (omega (arith, within)))

  premise_given : (c : List Literal) → Contains (map literals_of (map (conclusion_at d) ps)) c → IsInput problem d c ⊎ Contains all c
  premise_given c i =
      let u = from_image literals_of (map (conclusion_at d) ps) c i in
      let n = from_image (conclusion_at d) ps u.0 u.1 in
      comes_given problem d all c (subst (ComesFrom problem d all) (ap literals_of n.2 ∙ u.2) (each_comes problem d all h.steps n.0 (premise_there n.0 n.1)))

  -- so it is what a chain over those gives
  pub exact_given : IsExactFrom d inference → IsExactResolvent complement (λ c. IsInput problem d c ⊎ Contains (earlier ++ ls) c) (literals_of clause)
  exact_given exact = (
    exact.0,
    chain_more complement (Contains (map literals_of (map (conclusion_at d) ps))) (λ c. IsInput problem d c ⊎ Contains all c) premise_given exact.0 (literals_of clause) exact.1,
  )

  -- the steps are those with a clause more
  pub steps_more : IsNoWeaker d inference → AreSteps problem (d ++ inference ∷ []) (earlier ++ (ls ++ literals_of clause ∷ []))
  steps_more exact = subst (λ (ks : List (List Literal)). AreSteps problem (d ++ inference ∷ []) ks) together (one_learned d inference all h.steps refl exact)

  -- one that was new, over atoms, and exact
  module _ (new : IsNew (at_start problem earlier ++ ls) (literals_of clause)) (atoms : IsOverAtoms problem (literals_of clause)) (exact : IsExactFrom d inference) where
    within : (c : List Literal) → Contains (cs ++ literals_of clause ∷ []) c → ComesFrom problem (d ++ inference ∷ []) (all ++ literals_of clause ∷ []) c
    within c i = elim (Contains-push_cases cs (literals_of clause) c i) [
      | inl was ↦ comes_on problem d (inference ∷ []) all (literals_of clause ∷ []) c (h.only c was)
      | inr is ↦ subst (ComesFrom problem (d ++ inference ∷ []) (all ++ literals_of clause ∷ [])) is
          (comes_learned problem (d ++ inference ∷ []) (all ++ literals_of clause ∷ []) (literals_of clause) (Contains-push all (literals_of clause)))
    ]

    still_kept : (c : List Literal) → Contains (all ++ literals_of clause ∷ []) c → Contains (cs ++ literals_of clause ∷ []) c
    still_kept c i = elim (Contains-push_cases all (literals_of clause) c i) [
      | inl was ↦ Contains-append_left cs (literals_of clause ∷ []) c (h.kept c was)
      | inr is ↦ subst (Contains (cs ++ literals_of clause ∷ [])) is (Contains-push cs (literals_of clause))
    ]

    exact_last : IsExactResolvent complement (λ c. IsInput problem (d ++ inference ∷ []) c ⊎ Contains all c) (literals_of clause)
    exact_last =
        let chain = exact_given exact in (
          chain.0,
          chain_more complement (λ c. IsInput problem d c ⊎ Contains all c) (λ c. IsInput problem (d ++ inference ∷ []) c ⊎ Contains all c) (λ c g. elim g [
            | inl i ↦ inl (input_onward d (inference ∷ []) problem c i)
            | inr i ↦ inr i
          ]) chain.0 (literals_of clause) chain.1,
        )

    pub derived_more : HasDerived problem (d ++ inference ∷ []) (cs ++ literals_of clause ∷ []) earlier (ls ++ literals_of clause ∷ [])
    derived_more = record {
      assumes = among_more;
      only = λ c i. subst (λ (ks : List (List Literal)). ComesFrom problem (d ++ inference ∷ []) ks c) together (within c i);
      kept = λ c i. still_kept c (subst (λ (ks : List (List Literal)). Contains ks c) (sym together) i);
      derived = subst (All (IsLearnedFrom problem (d ++ inference ∷ []))) together
          (All-push (IsLearnedFrom problem (d ++ inference ∷ [])) all (literals_of clause) derived_kept (record { number = length d; derived = last_derived; same = ap literals_of last_concludes }));
      atoms = subst (All (IsOverAtoms problem)) together (All-push (IsOverAtoms problem) all (literals_of clause) h.atoms atoms);
      new = new_pushed (at_start problem earlier) ls (literals_of clause) h.new new;
      exact = subst (AreExactResolvents complement (IsInput problem (d ++ inference ∷ []))) together
          (resolvents_pushed complement (IsInput problem (d ++ inference ∷ [])) all (literals_of clause) exact_kept exact_last);
      steps = steps_more (inl exact);
    }
