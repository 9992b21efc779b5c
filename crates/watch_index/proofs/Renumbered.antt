-- What stays of a list of numbers, one entry after the other.
use Rattle.std.proofs.Common.{inl, inr, ◌≡◌, ◌<◌, ◌≤◌, ◌+◌, ℕ, suc, List, [], ◌∷◌, ◌++◌, length, take, get_or, Option, Some, None, refl, sym, ap, ◌∙◌, arith, append-nil}
use Rattle.std.specs.List.{cons_option}
use Rattle.std.proofs.lemmas.List.{take_more, take_more_set, get_or-set_other, length-set}
use Rattle.std.proofs.lemmas.List.Elements.{filter_map-append}
use Rattle.watch_index.specs.Indexes.{renumbered, RenumbersOne}

renumbered_more : (kept : List (Option ℕ)) (ns : List ℕ) (n : ℕ) → renumbered kept (ns ++ n ∷ []) ≡ renumbered kept ns ++ cons_option (get_or kept n None) []
renumbered_more kept ns n = filter_map-append (λ m. get_or kept m None) ns (n ∷ [])

-- up to a place the entries that stay stand in the first places
pub record AreRenumbered (kept : List (Option ℕ)) (old : List ℕ) (at to : ℕ) (now : List ℕ) : Type 0 where
  pub within : to ≤ at
  pub size : length now ≡ length old
  pub first : take to now ≡ renumbered kept (take at old)
  pub rest : (j : ℕ) → at ≤ j → get_or now j 0 ≡ get_or old j 0

module _ (kept : List (Option ℕ)) (old : List ℕ) where
  pub renumbered_none : AreRenumbered kept old 0 0 old
  renumbered_none = record { within = omega arith; size = refl; first = refl; rest = λ j le. refl }

  pub renumbered_on : (at to : ℕ) (now next : List ℕ) (to2 : ℕ) → at < length old → AreRenumbered kept old at to now → RenumbersOne kept at to now next to2 → AreRenumbered kept old (at + 1) to2 next
  renumbered_on at to now next to2 lt h k =
      let o = get_or kept (get_or old at 0) None in
      let here : get_or now at 0 ≡ get_or old at 0 = h.rest at (omega arith) in
      let same : get_or kept (get_or now at 0) None ≡ o = ap (λ n. get_or kept n None) here in
      let more : renumbered kept (take (at + 1) old) ≡ renumbered kept (take at old) ++ cons_option o [] = ap (renumbered kept) (take_more old at 0 lt) ∙ renumbered_more kept (take at old) (get_or old at 0) in
      elim k as (λ _. AreRenumbered kept old (at + 1) to2 next) [
        | inl a ↦
            let none : o ≡ None = sym same ∙ a.0 in
            record {
              within = omega (arith, h.within, a.2);
              size = ap length a.1 ∙ h.size;
              first = ap (λ n. take n next) a.2 ∙ ap (take to) a.1 ∙ h.first ∙ sym (more ∙ ap (λ x. renumbered kept (take at old) ++ cons_option x []) none ∙ append-nil (renumbered kept (take at old)));
              rest = λ j le. ap (λ l. get_or l j 0) a.1 ∙ h.rest j (omega (arith, le));
            }
        | inr b ↦
            let m = b.0 in
            let some : o ≡ Some m = sym same ∙ b.1 in
            let next_to : suc to ≡ to + 1 = omega arith in
            record {
              within = omega (arith, h.within, b.3);
              size = ap length b.2 ∙ length-set now to m ∙ h.size;
              first = ap (λ n. take n next) (b.3 ∙ next_to) ∙ ap (take (to + 1)) b.2 ∙ take_more_set now to m (omega (arith, lt, h.within, h.size)) ∙ ap (λ l. l ++ m ∷ []) h.first
                  ∙ sym (more ∙ ap (λ x. renumbered kept (take at old) ++ cons_option x []) some);
              rest = λ j le. ap (λ l. get_or l j 0) b.2 ∙ get_or-set_other now to j m 0 (λ e. absurd (omega (arith, e, le, h.within))) ∙ h.rest j (omega (arith, le));
            }
      ]
