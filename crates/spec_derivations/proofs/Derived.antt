-- What is derived from true assumptions is true.
use Rattle.std.proofs.Common.{◌≡◌, ℕ, zero, suc, ◌<◌, true, false, ◌||◌, List, length, get_or, take, map, All, Contains, refl, sym, ap, ◌∙◌, subst, arith}
use Rattle.std.proofs.lemmas.List.{get_or-take, length-take-le}
use Rattle.std.proofs.lemmas.List.Elements.{All-map, Contains-get_or}
use Rattle.spec_text.specs.Trees.{Trees}
use Rattle.spec_sorts.specs.Terms.{Symbol, Term}
use Rattle.spec_sorts.specs.WellSorted.{IsFormulaOver}
use Rattle.spec_sorts.specs.Values.{Interpretation}
use Rattle.spec_sorts.specs.Literals.{Clause}
use Rattle.spec_proofs.specs.declared.Rule.{Rule}
use Rattle.spec_rules.specs.Rules.{IsRight}
use Rattle.spec_rules.specs.Clauses.{term_true, clause_true}
use Rattle.spec_derivations.specs.Derivations.{Inference, assumption, by_rule, Derivation, conclusion, premises_of, no_inference, inference_at, conclusion_at, FollowsFrom, IsDerivation, DependsOn, itself, by_premise}
use Rattle.spec_derivations.proofs.Derivations.{follows_at}

-- what the numbers before it mean
front_means : (d : Derivation) (n m : ℕ) → m < n → conclusion_at (take n d) m ≡ conclusion_at d m
front_means d n m lt = ap conclusion (get_or-take n d m no_inference lt)

module _ (d : Derivation) (symbols : List Symbol) (i : Interpretation) (rules : (rule : Rule) (ps : List Clause) (arguments : Trees) (c : Clause) → All (IsFormulaOver symbols) c → All (λ x. clause_true i x ≡ true) ps → IsRight rule ps arguments c → clause_true i c ≡ true) (right : IsDerivation d) (formulas : All (λ x. All (IsFormulaOver symbols) (conclusion x)) d) where
  -- the assumptions that a clause depends on are true
  abbrev AreTrue : ℕ → Type 0
  AreTrue n = (m : ℕ) (t : Term) → DependsOn d n m → inference_at d m ≡ assumption t → term_true i t ≡ true

  -- a step is true where the clauses before it are, as far as what they depend on is
  one_true : (n : ℕ) → n < length d → ((m : ℕ) → m < n → AreTrue m → clause_true i (conclusion_at d m) ≡ true) → AreTrue n → clause_true i (conclusion_at d n) ≡ true
  one_true n lt before assumed = go (inference_at d n) refl (follows_at d right n lt)
    where
      go : (x : Inference) → inference_at d n ≡ x → FollowsFrom (take n d) (inference_at d n) → clause_true i (conclusion_at d n) ≡ true
      go (assumption t) e follows = ap (λ x. clause_true i (conclusion x)) e ∙ ap (λ b. b || false) (assumed n t (itself n) e)
      go (by_rule r ps arguments c) e follows =
          let f : FollowsFrom (take n d) (by_rule r ps arguments c) = subst (FollowsFrom (take n d)) e follows in
          let earlier : (k : ℕ) → k < n → conclusion_at (take n d) k ≡ conclusion_at d k = front_means d n in
          let each : All (λ x. clause_true i x ≡ true) (map (conclusion_at (take n d)) ps) = All-map (λ x. clause_true i x ≡ true) (conclusion_at (take n d)) ps (λ k p h.
          let less : get_or ps k p < n = omega (arith, f.0 k p h, length-take-le n d (omega arith)) in
          ap (clause_true i) (earlier (get_or ps k p) less) ∙ before (get_or ps k p) less (λ m t depends. assumed m t (by_premise n (get_or ps k p) m (subst (λ (x : Inference). Contains (premises_of x) (get_or ps k p)) (sym e) (Contains-get_or ps k p h)) depends))) in
          let over : All (IsFormulaOver symbols) c = subst (λ (x : Inference). All (IsFormulaOver symbols) (conclusion x)) e (formulas n no_inference lt) in
          ap (λ x. clause_true i (conclusion x)) e ∙ rules r (map (conclusion_at (take n d)) ps) arguments c over each f.1

  pub derived_true : (bound n : ℕ) → n < bound → n < length d → AreTrue n → clause_true i (conclusion_at d n) ≡ true
  derived_true zero n lt there assumed = absurd (omega arith)
  derived_true (suc bound) n lt there assumed = one_true n there (λ m less. derived_true bound m (omega arith) (omega arith)) assumed
