-- The greatest of numbers.
use Rattle.std.proofs.Common.{inl, inr, ◌⊎◌, ◌≡◌, ℕ, zero, suc, max, ◌<◌, ◌≤◌, List, [], ◌∷◌, length, get_or, refl, sym, ap, ◌∙◌, arith}
use Rattle.std.proofs.lemmas.Bool.{cases_lt}
use Rattle.std.proofs.Math.Nat.{le-max_left, le-max_right, max-eq_left, max-eq_right, le_trans}
use Rattle.term_core.specs.declared.ids.TermId.{TermId}
use Rattle.proof_log.specs.declared.premises.StepId.{StepId}
use Rattle.proof_log.specs.Reaches.{ReachView, reach_in, past_from, over_from, join}

-- the greatest g of these, or a where that is greater
abbrev pub most_from : (A : Type 0) → (A → ℕ) → ℕ → List A → ℕ
most_from A g a [] = a
most_from A g a (x ∷ xs) = most_from A g (max a (g x)) xs

-- The greatest is that of one of them.
pub record IsMet (A : Type 0) (g : A → ℕ) (xs : List A) (d : A) (n : ℕ) : Type 0 where
  pub place : ℕ
  pub there : place < length xs
  pub is : g (get_or xs place d) ≡ n

module _ (A : Type 0) (g : A → ℕ) where
  pub most_ge : (a : ℕ) (xs : List A) → a ≤ most_from A g a xs
  most_ge a [] = omega arith
  most_ge a (x ∷ xs) = le_trans (le-max_left a (g x)) (most_ge (max a (g x)) xs)

  pub most_has : (a : ℕ) (xs : List A) (k : ℕ) (d : A) → k < length xs → g (get_or xs k d) ≤ most_from A g a xs
  most_has a [] k d lt = absurd (omega (arith, lt))
  most_has a (x ∷ xs) zero d lt = le_trans (le-max_right a (g x)) (most_ge (max a (g x)) xs)
  most_has a (x ∷ xs) (suc k) d lt = most_has (max a (g x)) xs k d (omega (arith, lt))

  pub most_met : (a : ℕ) (xs : List A) (d : A) → (most_from A g a xs ≡ a) ⊎ IsMet A g xs d (most_from A g a xs)
  most_met a [] d = inl refl
  most_met a (x ∷ xs) d =
      elim (most_met (max a (g x)) xs d) as (λ _. (most_from A g (max a (g x)) xs ≡ a) ⊎ IsMet A g (x ∷ xs) d (most_from A g (max a (g x)) xs)) [
        | inl e ↦ elim (cases_lt a (g x)) as (λ _. (most_from A g (max a (g x)) xs ≡ a) ⊎ IsMet A g (x ∷ xs) d (most_from A g (max a (g x)) xs)) [
          | inl below ↦ inr (record { place = 0; there = omega arith; is = sym (e ∙ max-eq_right (omega (arith, below))) })
          | inr above ↦ inl (e ∙ max-eq_left (omega (arith, above)))
        ]
        | inr m ↦ inr (record { place = suc m.place; there = omega (arith, m.there); is = m.is })
      ]

-- one past a term
abbrev pub past_one : TermId → ℕ
past_one id = suc id.0

pub past_is : (a : ℕ) (ids : List TermId) → past_from a ids ≡ most_from TermId past_one a ids
past_is a [] = refl
past_is a (id ∷ ids) = past_is (max a (suc id.0)) ids

-- what premises reach
abbrev pub terms_in : List ReachView → StepId → ℕ
terms_in rs p = (reach_in rs p).terms

abbrev pub assumes_in : List ReachView → StepId → ℕ
assumes_in rs p = (reach_in rs p).assumes

pub over_terms : (rs : List ReachView) (a : ReachView) (ps : List StepId) → (over_from rs a ps).terms ≡ most_from StepId (terms_in rs) a.terms ps
over_terms rs a [] = refl
over_terms rs a (p ∷ ps) = over_terms rs (join a (reach_in rs p)) ps

pub over_assumes : (rs : List ReachView) (a : ReachView) (ps : List StepId) → (over_from rs a ps).assumes ≡ most_from StepId (assumes_in rs) a.assumes ps
over_assumes rs a [] = refl
over_assumes rs a (p ∷ ps) = over_assumes rs (join a (reach_in rs p)) ps

pub over_same : (rs ss : List ReachView) (a : ReachView) (ps : List StepId) → ((k : ℕ) (d : StepId) → k < length ps → reach_in rs (get_or ps k d) ≡ reach_in ss (get_or ps k d))
    → over_from rs a ps ≡ over_from ss a ps
over_same rs ss a [] h = refl
over_same rs ss a (p ∷ ps) h =
    ap (λ r. over_from rs (join a r) ps) (h 0 p (omega arith)) ∙ over_same rs ss (join a (reach_in ss p)) ps (λ k d lt. h (suc k) d (omega (arith, lt)))
