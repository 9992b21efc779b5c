-- Reasons that join terms, from a place on.
use Rattle.std.proofs.Common.{◌≡◌, ◌≢◌, ℕ, suc, ◌+◌, ◌<◌, ◌≤◌, ◌⊎◌, inl, inr, List, [], ◌∷◌, length, get_or, drop, Option, Some, None, refl, sym, ap, ◌∙◌, subst, arith}
use Rattle.std.specs.Prelude.{MatchOption}
use Rattle.std.proofs.lemmas.Bool.{cases_lt}
use Rattle.std.proofs.lemmas.List.{drop_more, drop_all, get_or_default}
use Rattle.std.proofs.lemmas.List.Elements.{Contains-get_or}
use Rattle.spec_sorts.specs.Terms.{Term}
use Rattle.spec_equality.specs.Reasons.{Joins, HasReason, AreJoined}
use Rattle.term_core.specs.declared.ids.TermId.{TermId}
use Rattle.term_core.specs.Tables.{TableView, IsIn, AreDifferent, term_at, clause_at}
use Rattle.rule_eq.specs.Reasoning.{JoinsAt, HasNoneBetween, HasReasonIn, AreOneOrJoined}

module _ (t : TableView) (rs : List (Option Term)) (pair : TermId × TermId) where
  -- a place whose reason joins two terms shows one
  pub has_at : (k : ℕ) → k < length rs → JoinsAt t rs pair k → HasReasonIn t rs pair
  has_at k lt joins = (get_or rs k None, Contains-get_or rs k None lt, joins)

  -- and none at all places are none
  pub has_none : (from : ℕ) → HasNoneBetween t rs pair from (length rs) → HasNoneBetween t rs pair 0 from → HasReasonIn t rs pair → ⊥
  has_none from after before (r, (k, lt, at), joins) =
      let here : JoinsAt t rs pair k = subst (λ (x : Option Term). Joins x (term_at t pair.0) (term_at t pair.1)) (sym (get_or_default rs k None r lt ∙ at)) joins in
      elim (cases_lt k from) [
        | inl low ↦ before k (omega arith) low here
        | inr high ↦ after k high lt here
      ]

  -- what a look through both parts gives
  pub found : (from len : ℕ) → len ≡ length rs → from ≤ len → HasNoneBetween t rs pair from len → (o : Option ℕ) → MatchOption o (HasNoneBetween t rs pair 0 from) (λ k. (k < from) × JoinsAt t rs pair k)
      → MatchOption o (HasReasonIn t rs pair → ⊥) (λ k. (k < length rs) × HasReasonIn t rs pair)
  found from len long le after None before = has_none from (subst (λ (n : ℕ). HasNoneBetween t rs pair from n) long after) before
  found from len long le after (Some k) (lt, joins) = (omega (arith, lt, le, long), has_at k (omega (arith, lt, le, long)) joins)

  -- a place for two terms that are not one
  pub placed : AreDifferent t.terms → IsIn t pair.0 → IsIn t pair.1 → pair.0 ≢ pair.1 → (o : Option ℕ) → MatchOption o (HasReasonIn t rs pair → ⊥) (λ k. (k < length rs) × HasReasonIn t rs pair)
      → MatchOption o (AreOneOrJoined t rs pair → ⊥) (λ k. (k ≤ length rs) × AreOneOrJoined t rs pair)
  placed differ one other apart None none = λ h. elim h [
    | inl same ↦ let number : ℕ → TermId = λ n. record { 0 = n } in apart (ap number (differ pair.0.0 pair.1.0 one other same))
    | inr has ↦ none has
  ]
  placed differ one other apart (Some k) (lt, has) = (omega (arith, lt), inr has)

  -- no place up to here
  pub none_more : (from place : ℕ) → HasNoneBetween t rs pair from place → (JoinsAt t rs pair place → ⊥) → HasNoneBetween t rs pair from (place + 1)
  none_more from place none here k le lt joins =
      elim (cases_lt k place) [
        | inl low ↦ none k le low joins
        | inr high ↦ let same : place ≡ k = omega (arith, high, lt) in here (subst (λ (n : ℕ). JoinsAt t rs pair n) (sym same) joins)
      ]

-- lists of different lengths are not joined
pub not_joined : (rs : List (Option Term)) (ts us : List Term) → length ts ≢ length us → AreJoined rs ts us → ⊥
not_joined rs [] [] differ h = differ refl
not_joined rs (t ∷ ts) (u ∷ us) differ h = not_joined rs ts us (λ e. differ (ap suc e)) h.1
not_joined rs [] (u ∷ us) differ h = h
not_joined rs (t ∷ ts) [] differ h = h

module _ (t : TableView) (rs : List (Option Term)) (ids others : List TermId) (k : ℕ) (d : TermId) (lt : k < length ids) (lt_others : k < length others) where
  -- what is joined from here on, opened
  opened : AreJoined rs (clause_at t (drop k ids)) (clause_at t (drop k others)) → AreJoined rs (term_at t (get_or ids k d) ∷ clause_at t (drop (k + 1) ids)) (term_at t (get_or others k d) ∷ clause_at t (drop (k + 1) others))
  opened h = subst (λ (xs : List TermId). AreJoined rs (term_at t (get_or ids k d) ∷ clause_at t (drop (k + 1) ids)) (clause_at t xs)) (drop_more others k d lt_others)
      (subst (λ (xs : List TermId). AreJoined rs (clause_at t xs) (clause_at t (drop k others))) (drop_more ids k d lt) h)

  -- it is joined here, and after it
  pub joined_here : AreJoined rs (clause_at t (drop k ids)) (clause_at t (drop k others)) → (term_at t (get_or ids k d) ≡ term_at t (get_or others k d)) ⊎ HasReason rs (term_at t (get_or ids k d)) (term_at t (get_or others k d))
  joined_here h = (opened h).0

  pub joined_after : AreJoined rs (clause_at t (drop k ids)) (clause_at t (drop k others)) → AreJoined rs (clause_at t (drop (k + 1) ids)) (clause_at t (drop (k + 1) others))
  joined_after h = (opened h).1

  -- and the other way round
  pub joined_from : (term_at t (get_or ids k d) ≡ term_at t (get_or others k d)) ⊎ HasReason rs (term_at t (get_or ids k d)) (term_at t (get_or others k d)) → AreJoined rs (clause_at t (drop (k + 1) ids)) (clause_at t (drop (k + 1) others)) → AreJoined rs (clause_at t (drop k ids)) (clause_at t (drop k others))
  joined_from here rest = subst (λ (xs : List TermId). AreJoined rs (clause_at t xs) (clause_at t (drop k others))) (sym (drop_more ids k d lt))
      (subst (λ (xs : List TermId). AreJoined rs (term_at t (get_or ids k d) ∷ clause_at t (drop (k + 1) ids)) (clause_at t xs)) (sym (drop_more others k d lt_others)) (here, rest))

-- nothing is joined with nothing
pub joined_end : (t : TableView) (rs : List (Option Term)) (ids others : List TermId) (k : ℕ) → length ids ≤ k → length others ≤ k → AreJoined rs (clause_at t (drop k ids)) (clause_at t (drop k others))
joined_end t rs ids others k le le_others = subst (λ (xs : List TermId). AreJoined rs (clause_at t xs) (clause_at t (drop k others))) (sym (drop_all k ids le))
    (subst (λ (xs : List TermId). AreJoined rs [] (clause_at t xs)) (sym (drop_all k others le_others)) tt)
