-- In a list in order, what neighbours say of each other all elements that tie say of each other.
use Rattle.std.proofs.Common.{◌≡◌, ℕ, zero, suc, ◌+◌, ◌-◌, ◌<◌, ◌≤◌, ◌⊎◌, inl, inr, Bool, false, List, length, get_or, sym, ap, ◌∙◌, subst, arith}
use Rattle.std.specs.Prelude.{Contains}
use Rattle.std.specs.Cmp.{IsStrictWeakOrder}
use Rattle.std.specs.List.Sorted.{IsSortedBy}
use Rattle.std.proofs.lemmas.Bool.{cases_lt}
use Rattle.std.proofs.lemmas.List.{get_or_default}
use Rattle.std.proofs.lemmas.List.Sorted.{sorted_far}

module _ {X O : Type 0} (lt : X → X → Bool) (order : IsStrictWeakOrder lt) (other : X → O) where
  -- neighbours that tie have the same of what is looked at
  abbrev pub NeighboursAlike : List X → Type 0
  NeighboursAlike xs = (k : ℕ) (d : X) → k + 1 < length xs → lt (get_or xs k d) (get_or xs (k + 1) d) ≡ false
      → lt (get_or xs (k + 1) d) (get_or xs k d) ≡ false → other (get_or xs k d) ≡ other (get_or xs (k + 1) d)

  module _ (xs : List X) (up : IsSortedBy lt xs) (near : NeighboursAlike xs) where
    -- where a place and one after it tie, all between are alike
    along : (n i : ℕ) (d : X) → i + n < length xs → lt (get_or xs i d) (get_or xs (i + n) d) ≡ false → other (get_or xs i d) ≡ other (get_or xs (i + n) d)
    along zero i d l h = ap (λ k. other (get_or xs k d)) (none_more i)
      where
        none_more : (i : ℕ) → i ≡ i + 0
        none_more i = omega arith
    along (suc n) i d l h = step (i + n) (i + suc n) (omega arith) (omega arith) l h (along n i d (omega (arith, l)))
      where
        step : (j m : ℕ) → m ≡ j + 1 → i ≤ j → m < length xs → lt (get_or xs i d) (get_or xs m d) ≡ false
            → (lt (get_or xs i d) (get_or xs j d) ≡ false → other (get_or xs i d) ≡ other (get_or xs j d)) → other (get_or xs i d) ≡ other (get_or xs m d)
        step j m e low l h before =
            let at : get_or xs m d ≡ get_or xs (j + 1) d = ap (λ k. get_or xs k d) e in
            let next : j + 1 < length xs = omega (arith, l, e) in
            let h : lt (get_or xs i d) (get_or xs (j + 1) d) ≡ false = subst (λ x. lt (get_or xs i d) x ≡ false) at h in
            let back = up j d (omega arith) next in
            let front = sorted_far lt order xs up i j d low (omega (arith, next)) in
            before (order.chain _ _ _ h back) ∙ near j d next (order.chain _ _ _ front h) back ∙ ap other (sym at)

    up_to : (i j : ℕ) (d : X) → i ≤ j → j < length xs → lt (get_or xs i d) (get_or xs j d) ≡ false → other (get_or xs i d) ≡ other (get_or xs j d)
    up_to i j d low l h =
        let at : get_or xs (i + (j - i)) d ≡ get_or xs j d = ap (λ k. get_or xs k d) (sum i j low) in
        along (j - i) i d (omega (arith, low, l)) (subst (λ x. lt (get_or xs i d) x ≡ false) (sym at) h) ∙ ap other at
      where
        sum : (i j : ℕ) → i ≤ j → i + (j - i) ≡ j
        sum i j low = omega (arith, low)

    -- so are any two elements that tie
    pub all_alike : (x y : X) → Contains xs x → Contains xs y → lt x y ≡ false → lt y x ≡ false → other x ≡ other y
    all_alike x y (i, i_in, i_is) (j, j_in, j_is) h k = go (cases_lt j i)
      where
        there : get_or xs j x ≡ y
        there = get_or_default xs j x y j_in ∙ j_is

        go : (j < i) ⊎ (i ≤ j) → other x ≡ other y
        go (inl l) =
            sym (sym (ap other there) ∙ up_to j i x (omega (arith, l)) i_in (subst (λ a. lt a (get_or xs i x) ≡ false) (sym there) (subst (λ a. lt y a ≡ false) (sym i_is) k)) ∙ ap other i_is)
        go (inr l) =
            sym (ap other i_is) ∙ up_to i j x l j_in (subst (λ a. lt a (get_or xs j x) ≡ false) (sym i_is) (subst (λ a. lt x a ≡ false) (sym there) h)) ∙ ap other there
