-- What was derived of a problem, is derived of one with more interface equalities, or with more asserted terms.
use Rattle.std.proofs.Common.{◌≡◌, ℕ, List, ◌++◌, length, map, take, Contains, inl, inr, sym, subst}
use Rattle.std.proofs.lemmas.List.Elements.{All-weaker, Contains-append_left, Contains-append_right, Contains-append_cases}
use Rattle.spec_sorts.specs.Terms.{Term}
use Rattle.spec_sorts.specs.Subsets.{AreAmong}
use Rattle.spec_sorts.specs.Literals.{Clause, Literal, complement, literals_of}
use Rattle.spec_derivations.specs.Problems.{Problem, terms_of_problem, known_terms}
use Rattle.spec_derivations.specs.Derivations.{Inference, «assumption», by_rule, Derivation, conclusion, AssumesAmong}
use Rattle.spec_derivations.specs.Orders.{whole_terms, whole_clauses, first_clauses}
use Rattle.spec_derivations.specs.Lemmas.{IsLemma}
use Rattle.spec_derivations.specs.Inputs.{IsInput}
use Rattle.spec_derivations.specs.Learned.{AreNew}
use Rattle.spec_derivations.specs.Spent.{IsLearnedFrom, IsOverAtoms, at_start}
use Rattle.spec_derivations.proofs.Deriving.{stays_derived}
use Rattle.spec_derivations.proofs.Exact.{resolvents_more}
use Rattle.spec_derivations.proofs.Grown.{more_images, has_lemma_more, whole, over, lemma, clauses, inputs_more}
use Rattle.search_loop.specs.Rounds.{AreSteps, nothing, stating, lemmas as some_lemmas, learning, ComesFrom, HasDerived, BeganAfter}

-- more terms are asserted, and more are known
module _ (p q : Problem) (asserted : AreAmong p.asserted q.asserted) (terms : AreAmong (terms_of_problem p) (terms_of_problem q)) (known : AreAmong (known_terms p) (known_terms q)) where
  -- the steps of a search are those of one of more
  pub steps_of_more : (d : Derivation) (cs : List (List Literal)) → AreSteps p d cs → AreSteps q d cs
  steps_of_more _ _ nothing = nothing
  steps_of_more _ _ (stating xs x cs before i) = stating xs x cs (steps_of_more xs cs before) (clauses p q known asserted (conclusion x) i)
  steps_of_more _ _ (some_lemmas xs ys cs before all) = some_lemmas xs ys cs (steps_of_more xs cs before)
      (All-weaker (IsLemma (whole_terms p) (xs ++ ys) (length xs)) (IsLemma (whole_terms q) (xs ++ ys) (length xs)) (lemma p q known (xs ++ ys) (length xs)) ys all)
  steps_of_more _ _ (learning xs x cs before by exact) = learning xs x cs (steps_of_more xs cs before) by exact

  -- each clause comes from there still
  comes_of_more : (d : Derivation) (ls : List (List Literal)) (c : List Literal) → ComesFrom p d ls c → ComesFrom q d ls c
  comes_of_more d ls c from = elim from [
    | inl i ↦ inl (elim (Contains-append_cases (map literals_of (whole_clauses p)) ls c i) [
      | inl b ↦ Contains-append_left (map literals_of (whole_clauses q)) ls c (more_images literals_of (whole_clauses p) (whole_clauses q) (clauses p q known asserted) c b)
      | inr l ↦ Contains-append_right (map literals_of (whole_clauses q)) ls c l
    ])
    | inr l ↦ inr (has_lemma_more (whole_terms p) (whole_terms q) (whole p q known) d c l)
  ]

  -- what is assumed is among more
  assumes_more : (x : Inference) → AssumesAmong (terms_of_problem p) x → AssumesAmong (terms_of_problem q) x
  assumes_more («assumption» u) i = terms u i
  assumes_more (by_rule r ps arguments c) i = i

  -- what was derived is derived of it, where what was learned is new there
  pub derived_with : (d : Derivation) (cs earlier ls : List (List Literal)) → HasDerived p d cs earlier ls → AreNew (at_start q earlier) ls → HasDerived q d cs earlier ls
  derived_with d cs earlier ls h new = record {
    assumes = All-weaker (AssumesAmong (terms_of_problem p)) (AssumesAmong (terms_of_problem q)) assumes_more d h.assumes;
    only = λ c i. comes_of_more d (earlier ++ ls) c (h.only c i);
    kept = h.kept;
    derived = All-weaker (IsLearnedFrom p d) (IsLearnedFrom q d) (λ c l. stays_derived p q d c terms l) (earlier ++ ls) h.derived;
    atoms = All-weaker (IsOverAtoms p) (IsOverAtoms q) (over p q known) (earlier ++ ls) h.atoms;
    new = new;
    exact = resolvents_more complement (IsInput p d) (IsInput q d) (inputs_more p q known terms d) (earlier ++ ls) h.exact;
    steps = steps_of_more d (earlier ++ ls) h.steps;
  }

  -- a check of it began where it did
  pub began_of_more : (n : ℕ) (d : Derivation) (earlier : List (List Literal)) → BeganAfter p n d earlier → BeganAfter q n d earlier
  began_of_more n d earlier h = record { there = h.there; steps = steps_of_more (take n d) earlier h.steps }

-- the same terms are asserted and assumed, and more are known
module _ (p q : Problem) (asserted : q.asserted ≡ p.asserted) (assumed : q.assumed ≡ p.assumed) where
  pub asserted_among : AreAmong p.asserted q.asserted
  asserted_among t i = subst (λ (ts : List Term). Contains ts t) (sym asserted) i

  pub terms_among : AreAmong (terms_of_problem p) (terms_of_problem q)
  terms_among t i = subst (λ (ts : List Term). Contains ts t) (sym (λ j. asserted j ++ assumed j)) i

  -- it begins with the same clauses
  first_same : first_clauses q ≡ first_clauses p
  first_same = λ i. first_clauses (record { asserted = asserted i; assumed = assumed i; interface = p.interface })

  -- and what was derived is derived of it
  pub derived_of_more : (known : AreAmong (known_terms p) (known_terms q)) (d : Derivation) (cs earlier ls : List (List Literal)) → HasDerived p d cs earlier ls → HasDerived q d cs earlier ls
  derived_of_more known d cs earlier ls h = derived_with p q asserted_among terms_among known d cs earlier ls h
      (subst (λ (bs : List Clause). AreNew (earlier ++ map literals_of bs) ls) (sym first_same) h.new)
