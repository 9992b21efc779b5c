-- Derivations by their numbers, and one clause more.
use Rattle.std.proofs.Common.{◌≡◌, inl, inr, ℕ, suc, ◌<◌, [], ◌∷◌, ◌++◌, length, take, drop, sym, ap, ◌∙◌, subst, arith, length-append}
use Rattle.std.proofs.lemmas.List.{take-append-drop, take-append-le, get_or_append_left}
use Rattle.std.proofs.lemmas.Bool.{cases_lt}
use Rattle.std.proofs.Math.Seq.{drop-cons, take-append_seam, get_or-append_seam}
use Rattle.spec_derivations.specs.Derivations.{Derivation, Inference, inference_at, no_inference, FollowsFrom, IsDerivation}

-- the clause of each number follows from those before it
pub follows_at : (d : Derivation) → IsDerivation d → (k : ℕ) → k < length d → FollowsFrom (take k d) (inference_at d k)
follows_at d h k lt = h (take k d) (inference_at d k) (drop (suc k) d) (sym (take-append-drop k d) ∙ ap (λ l. take k d ++ l) (drop-cons d k no_inference lt))

-- and where that is so, all is right
right_by : (d : Derivation) → ((k : ℕ) → k < length d → FollowsFrom (take k d) (inference_at d k)) → IsDerivation d
right_by d h before x after is =
    let lt : length before < length d = omega (arith, ap length is, length-append before (x ∷ after)) in
    let front : take (length before) d ≡ before = ap (λ l. take (length before) l) is ∙ take-append_seam before (x ∷ after) in
    let here : inference_at d (length before) ≡ x = ap (λ l. inference_at l (length before)) is ∙ get_or-append_seam before x after no_inference in
    subst (λ y. FollowsFrom before y) here (subst (λ l. FollowsFrom l (inference_at d (length before))) front (h (length before) lt))

-- one clause more, which follows from those before it
pub right_push : (d : Derivation) (x : Inference) → IsDerivation d → FollowsFrom d x → IsDerivation (d ++ x ∷ [])
right_push d x h last = right_by (d ++ x ∷ []) go
  where
    at_end : (k : ℕ) → length d ≡ k → FollowsFrom (take k (d ++ x ∷ [])) (inference_at (d ++ x ∷ []) k)
    at_end k e =
        subst (λ n. FollowsFrom (take n (d ++ x ∷ [])) (inference_at (d ++ x ∷ []) n)) e
        (subst (λ y. FollowsFrom (take (length d) (d ++ x ∷ [])) y) (sym (get_or-append_seam d x [] no_inference))
        (subst (λ l. FollowsFrom l x) (sym (take-append_seam d (x ∷ []))) last))

    before_end : (k : ℕ) → k < length d → FollowsFrom (take k (d ++ x ∷ [])) (inference_at (d ++ x ∷ []) k)
    before_end k lt =
        subst (λ y. FollowsFrom (take k (d ++ x ∷ [])) y) (sym (get_or_append_left d (x ∷ []) no_inference k lt))
        (subst (λ l. FollowsFrom l (inference_at d k)) (sym (take-append-le k d (x ∷ []) (omega (arith, lt)))) (follows_at d h k lt))

    go : (k : ℕ) → k < length (d ++ x ∷ []) → FollowsFrom (take k (d ++ x ∷ [])) (inference_at (d ++ x ∷ []) k)
    go k lt = elim (cases_lt k (length d)) [ inl below ↦ before_end k below | inr above ↦ at_end k (omega (arith, lt, above, length-append d (x ∷ []))) ]
