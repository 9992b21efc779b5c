-- What stays of a derivation is right.
use Rattle.std.proofs.Common.{◌≡◌, ◌<◌, ◌+◌, ℕ, suc, List, [], ◌∷◌, ◌++◌, length, map, take, drop, get_or, All, Contains, refl, sym, ap, ◌∙◌, subst, arith, length-append}
use Rattle.std.proofs.lemmas.List.{length-map, get_or-map, get_or-take, get_or_append_left, take-append-drop, drop_more}
use Rattle.std.proofs.Math.Seq.{get_or-append_seam}
use Rattle.spec_sorts.specs.Terms.{Term}
use Rattle.spec_sorts.specs.Literals.{Clause}
use Rattle.spec_rules.specs.Rules.{IsRight}
use Rattle.spec_derivations.specs.Derivations.{Inference, «assumption», by_rule, Derivation, conclusion, premises_of, no_inference, inference_at, conclusion_at, FollowsFrom, IsDerivation, DependsOn, itself, by_premise, AssumesAmong, IsDerivedFrom}
use Rattle.spec_derivations.specs.Keeping.{was, back, IsKeptOf}

conclusion_back : (kept : List ℕ) (x : Inference) → conclusion (back kept x) ≡ conclusion x
conclusion_back kept («assumption» t) = refl
conclusion_back kept (by_rule r ps arguments c) = refl

premises_back : (kept : List ℕ) (x : Inference) → premises_of (back kept x) ≡ map (was kept) (premises_of x)
premises_back kept («assumption» t) = refl
premises_back kept (by_rule r ps arguments c) = refl

assumes_back : (terms : List Term) (kept : List ℕ) (x : Inference) → AssumesAmong terms (back kept x) → AssumesAmong terms x
assumes_back terms kept («assumption» t) a = a
assumes_back terms kept (by_rule r ps arguments c) a = a

-- lists of clauses that are the same by their numbers
clauses_same : (f g : ℕ → Clause) (h : ℕ → ℕ) (ps : List ℕ) (k : ℕ) → ((p : ℕ) → p < k → f p ≡ g (h p)) → All (λ p. p < k) ps → map f ps ≡ map g (map h ps)
clauses_same f g h [] k same all = refl
clauses_same f g h (p ∷ ps) k same all = λ i. same p (all 0 p (omega arith)) i ∷ clauses_same f g h ps k same (λ j d lt. all (suc j) d (omega (arith, lt))) i

-- an inference follows where it did under the old numbers
follows_back : (earlier before : Derivation) (kept : List ℕ) (x : Inference) → All (λ p. p < length before) (premises_of x)
    → ((p : ℕ) → p < length before → conclusion_at before p ≡ conclusion_at earlier (was kept p)) → FollowsFrom earlier (back kept x) → FollowsFrom before x
follows_back earlier before kept («assumption» t) low same h = h
follows_back earlier before kept (by_rule r ps arguments c) low same h =
    (low, subst (λ (cs : List Clause). IsRight r cs arguments c) (sym (clauses_same (conclusion_at before) (conclusion_at earlier) (was kept) ps (length before) same low)) h.1)

module _ (old new : Derivation) (kept : List ℕ) (h : IsKeptOf old kept new) where
  size : length new ≡ length kept
  size = sym (length-map new (back kept)) ∙ ap length h.same ∙ length-map kept (inference_at old)

  at : (n : ℕ) → n < length new → back kept (inference_at new n) ≡ inference_at old (was kept n)
  at n lt = sym (get_or-map (back kept) new n no_inference no_inference lt) ∙ ap (λ (d : Derivation). get_or d n no_inference) h.same ∙ get_or-map (inference_at old) kept n 0 no_inference (omega (arith, lt, size))

  there : (n : ℕ) → n < length new → was kept n < length old
  there n lt = h.there n 0 (omega (arith, lt, size))

  pub says : (n : ℕ) → n < length new → conclusion_at new n ≡ conclusion_at old (was kept n)
  says n lt = sym (conclusion_back kept (inference_at new n)) ∙ ap conclusion (at n lt)

  pub right : IsDerivation old → IsDerivation new
  right d before x after is =
      let k = length before in
      let lt : k < length new = omega (arith, ap length is, length-append before (x ∷ after)) in
      let x_is : inference_at new k ≡ x = ap (λ (e : Derivation). get_or e k no_inference) is ∙ get_or-append_seam before x after no_inference in
      let o = was kept k in
      let o_lt = there k lt in
      let split : old ≡ take o old ++ inference_at old o ∷ drop (o + 1) old = sym (take-append-drop o old) ∙ ap (λ r. take o old ++ r) (drop_more old o no_inference o_lt) in
      let followed : FollowsFrom (take o old) (back kept x) = subst (FollowsFrom (take o old)) (sym (at k lt) ∙ ap (back kept) x_is) (d (take o old) (inference_at old o) (drop (o + 1) old) split) in
      let low : All (λ p. p < k) (premises_of x) = subst (λ y. All (λ p. p < k) (premises_of y)) x_is (h.earlier k lt) in
      follows_back (take o old) before kept x low (λ p less.
      let p_lt : p < length new = omega (arith, less, lt) in
      let here : inference_at new p ≡ inference_at before p = ap (λ (e : Derivation). get_or e p no_inference) is ∙ get_or_append_left before (x ∷ after) no_inference p less in
      let below : was kept p < o = h.ascending p k less (omega (arith, lt, size)) in
      sym (ap conclusion here) ∙ says p p_lt ∙ ap conclusion (sym (get_or-take o old (was kept p) no_inference below))) followed

  pub rests : (n m : ℕ) → n < length new → DependsOn new n m → (m < length new) × DependsOn old (was kept n) (was kept m)
  rests n _ lt (itself _) = (lt, itself (was kept n))
  rests n m lt (by_premise _ p _ i r) =
      let ps = premises_of (inference_at new n) in
      let low : p < n = subst (λ x. x < n) i.2 (h.earlier n lt i.0 p i.1) in
      let is : premises_of (inference_at old (was kept n)) ≡ map (was kept) ps = ap premises_of (sym (at n lt)) ∙ premises_back kept (inference_at new n) in
      let has : Contains (map (was kept) ps) (was kept p) = (i.0, omega (arith, i.1, length-map ps (was kept)), get_or-map (was kept) ps i.0 p (was kept p) i.1 ∙ ap (was kept) i.2) in
      let rest = rests p m (omega (arith, low, lt)) r in
      (rest.0, by_premise (was kept n) (was kept p) (was kept m) (subst (λ (l : List ℕ). Contains l (was kept p)) (sym is) has) rest.1)

  pub derived : (terms : List Term) (n : ℕ) → n < length new → IsDerivedFrom terms old (was kept n) → IsDerivedFrom terms new n
  derived terms n lt d = record {
    there = lt;
    assumptions = λ m r.
        let rest = rests n m lt r in
        assumes_back terms kept (inference_at new m) (subst (AssumesAmong terms) (sym (at m rest.0)) (d.assumptions (was kept m) rest.1));
  }
