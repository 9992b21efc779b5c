-- What is derived stays derived with further steps, and a clause may be learned after others.
use Rattle.std.proofs.Common.{◌≡◌, ℕ, ◌<◌, List, [], ◌∷◌, ◌++◌, length, take, map, All, Contains, ◌⊎◌, inl, inr, refl, sym, ap, ap₂, ◌∙◌, subst, arith}
use Rattle.std.proofs.lemmas.List.{append_assoc, append-nil, length-append, length-take-le, get_or_append_left}
use Rattle.std.proofs.lemmas.List.Elements.{All-append, All-cons, All-head, All-nil, All-tail}
use Rattle.spec_sorts.specs.Terms.{Term}
use Rattle.spec_sorts.specs.Literals.{Literal, complement, literals_of}
use Rattle.spec_derivations.specs.Problems.{Problem, terms_of_problem}
use Rattle.spec_derivations.specs.Lemmas.{IsLemma, HasLemma}
use Rattle.spec_derivations.specs.Inputs.{IsInput}
use Rattle.spec_derivations.specs.ExactChains.{IsExactResolvent, AreExactResolvents, IsExactFrom}
use Rattle.spec_derivations.specs.Derivations.{Inference, «assumption», by_rule, Derivation, conclusion, premises_of, no_inference, inference_at, conclusion_at, IsDerivation, DependsOn, itself, by_premise, AssumesAmong, IsDerivedFrom}
use Rattle.spec_derivations.specs.Learned.{IsNew, AreNew}
use Rattle.spec_derivations.specs.Spent.{IsLearnedFrom, IsOverAtoms, at_start, AreLearned, CanLearnMore}
use Rattle.spec_derivations.proofs.Derivations.{follows_at}
use Rattle.spec_derivations.proofs.Exact.{chain_more, resolvents_more, resolvents_pushed}
use Rattle.spec_derivations.proofs.Spending.{premises_before, depends_there}

module _ (d more : Derivation) where
  -- an inference keeps its number
  pub kept_at : (n : ℕ) → n < length d → inference_at (d ++ more) n ≡ inference_at d n
  kept_at n lt = get_or_append_left d more no_inference n lt

  -- and what it depends on
  depends_before : IsDerivation d → (n m : ℕ) → n < length d → DependsOn (d ++ more) n m → DependsOn d n m
  depends_before right n _ lt (itself _) = itself n
  depends_before right n m lt (by_premise _ k _ k_in depends) =
      let own : Contains (premises_of (inference_at d n)) k = subst (λ (x : Inference). Contains (premises_of x) k) (kept_at n lt) k_in in
      let less = premises_before (take n d) (inference_at d n) k (follows_at d right n lt) own in
      by_premise n k m own (depends_before right k m (omega (arith, less, length-take-le n d (omega (arith, lt)), lt)) depends)

  -- so it stays derived
  pub derived_onward : IsDerivation d → (terms : List Term) (n : ℕ) → IsDerivedFrom terms d n → IsDerivedFrom terms (d ++ more) n
  derived_onward right terms n h = record {
    there = omega (arith, h.there, length-append d more);
    assumptions = λ m depends.
        let own = depends_before right n m h.there depends in
        subst (AssumesAmong terms) (sym (kept_at m (depends_there d right n m h.there own))) (h.assumptions m own);
  }

  pub learned_onward : IsDerivation d → (p : Problem) (clause : List Literal) → IsLearnedFrom p d clause → IsLearnedFrom p (d ++ more) clause
  learned_onward right p clause h = record {
    number = h.number;
    derived = derived_onward right (terms_of_problem p) h.number h.derived;
    same = ap (λ x. literals_of (conclusion x)) (kept_at h.number h.derived.there) ∙ h.same;
  }

  -- clauses of numbers stay the same
  clauses_kept : (ns : List ℕ) → All (λ m. m < length d) ns → map literals_of (map (conclusion_at (d ++ more)) ns) ≡ map literals_of (map (conclusion_at d) ns)
  clauses_kept [] low = refl
  clauses_kept (n ∷ ns) low = ap₂ (λ (c : List Literal) (cs : List (List Literal)). c ∷ cs) (ap (λ x. literals_of (conclusion x)) (kept_at n (All-head (λ m. m < length d) n ns low))) (clauses_kept ns (All-tail (λ m. m < length d) n ns low))

  -- so what a chain over them gives it gives still
  exact_onward : (x : Inference) → All (λ m. m < length d) (premises_of x) → IsExactFrom d x → IsExactFrom (d ++ more) x
  exact_onward («assumption» t) low h = h
  exact_onward (by_rule r ps arguments c) low h = subst (λ (cs : List (List Literal)). IsExactResolvent complement (Contains cs) (literals_of c)) (sym (clauses_kept ps low)) h

  -- a lemma stays one
  pub lemma_onward : (ts : List Term) (n : ℕ) (x : Inference) → IsLemma ts d n x → IsLemma ts (d ++ more) n x
  lemma_onward ts n («assumption» t) i = i
  lemma_onward ts n (by_rule r ps arguments c) i = (
    λ k e lt. ((i.0 k e lt).0, omega (arith, (i.0 k e lt).1, length-append d more)),
    i.1,
    elim i.2 [ inl bare ↦ inl bare | inr exact ↦ inr (exact_onward (by_rule r ps arguments c) (λ k e lt. (i.0 k e lt).1) exact) ],
  )

  -- and a derivation has it still
  pub has_lemma_onward : (ts : List Term) (c : List Literal) → HasLemma ts d c → HasLemma ts (d ++ more) c
  has_lemma_onward ts c h = record {
    number = h.number;
    there = omega (arith, h.there, length-append d more);
    since = h.since;
    begun = h.begun;
    batch = λ n from to. subst (IsLemma ts (d ++ more) h.since) (sym (kept_at n (omega (arith, to, h.there)))) (lemma_onward ts h.since (inference_at d n) (h.batch n from to));
    same = ap (λ x. literals_of (conclusion x)) (kept_at h.number h.there) ∙ h.same;
  }

  -- and clauses from which a search may learn
  pub input_onward : (p : Problem) (c : List Literal) → IsInput p d c → IsInput p (d ++ more) c
  input_onward p c (inl i) = inl i
  input_onward p c (inr l) = inr (has_lemma_onward _ c l)

-- a clause that is new after others
pub new_pushed : (premises learned : List (List Literal)) (c : List Literal) → AreNew premises learned → IsNew (premises ++ learned) c → AreNew premises (learned ++ c ∷ [])
new_pushed premises [] c news new = (subst (λ ps. IsNew ps c) (append-nil premises) new, tt)
new_pushed premises (l ∷ learned) c news new = (news.0, new_pushed (premises ++ l ∷ []) learned c news.1 (subst (λ ps. IsNew ps c) (sym (append_assoc premises (l ∷ []) learned)) new))

-- the clause of a conflict, after those that were learned
pub one_more : (p : Problem) (d : Derivation) (earlier learned : List (List Literal)) → AreLearned p d earlier learned → (x : CanLearnMore p d earlier learned) → AreLearned p (d ++ x.more) earlier (learned ++ x.clause ∷ [])
one_more p d earlier learned h x =
    let all : (earlier ++ learned) ++ x.clause ∷ [] ≡ earlier ++ (learned ++ x.clause ∷ []) = append_assoc earlier learned (x.clause ∷ []) in
    record {
      right = x.right;
      derived = subst (λ cs. All (IsLearnedFrom p (d ++ x.more)) cs) all
          (All-append (IsLearnedFrom p (d ++ x.more)) (earlier ++ learned) (x.clause ∷ []) (λ k e lt. learned_onward d x.more h.right p _ (h.derived k e lt)) (All-cons (IsLearnedFrom p (d ++ x.more)) x.clause [] x.derived (All-nil (IsLearnedFrom p (d ++ x.more)))));
      atoms = subst (λ cs. All (IsOverAtoms p) cs) all (All-append (IsOverAtoms p) (earlier ++ learned) (x.clause ∷ []) h.atoms (All-cons (IsOverAtoms p) x.clause [] x.atoms (All-nil (IsOverAtoms p))));
      new = new_pushed (at_start p earlier) learned x.clause h.new x.new;
      exact = subst (λ cs. AreExactResolvents complement (IsInput p (d ++ x.more)) cs) all
          (resolvents_pushed complement (IsInput p (d ++ x.more)) (earlier ++ learned) x.clause
          (resolvents_more complement (IsInput p d) (IsInput p (d ++ x.more)) (input_onward d x.more p) (earlier ++ learned) h.exact) (
            x.exact.0,
            chain_more complement (λ c. IsInput p d c ⊎ Contains (earlier ++ learned) c) (λ c. IsInput p (d ++ x.more) c ⊎ Contains (earlier ++ learned) c) (λ c g. elim g [
              | inl i ↦ inl (input_onward d x.more p c i)
              | inr i ↦ inr i
            ]) x.exact.0 x.clause x.exact.1,
          ));
    }

-- what was learned before a check that has learned nothing yet
pub serves : (p : Problem) (d : Derivation) (earlier learned : List (List Literal)) → AreLearned p d earlier learned → AreLearned p d (earlier ++ learned) []
serves p d earlier learned h =
    let all : earlier ++ learned ≡ (earlier ++ learned) ++ [] = sym (append-nil (earlier ++ learned)) in
    record {
      right = h.right;
      derived = subst (λ cs. All (IsLearnedFrom p d) cs) all h.derived;
      atoms = subst (λ cs. All (IsOverAtoms p) cs) all h.atoms;
      new = tt;
      exact = subst (λ cs. AreExactResolvents complement (IsInput p d) cs) all h.exact;
    }
