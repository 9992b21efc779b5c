-- What stays of a list, one element after the other.
use Rattle.std.proofs.Common.{◌≡◌, ◌<◌, ◌≤◌, ◌+◌, ℕ, zero, suc, List, [], ◌∷◌, ◌++◌, length, take, set, get_or, Option, Some, None, inl, inr, refl, sym, ap, ◌∙◌, arith, append-nil}
use Rattle.std.specs.List.{swap}
use Rattle.std.proofs.lemmas.Bool.{cases_lt}
use Rattle.std.proofs.lemmas.List.{take_more, take_more_set, take-set, take-set-le, get_or-set_other, length-set, length-take-le}
use Rattle.std.proofs.lemmas.List.Edits.{length-swap, swap_is}
use Rattle.proof_log.specs.declared.premises.StepId.{StepId}
use Rattle.clause_store.specs.Stores.{no_step}
use Rattle.clause_store.specs.Keeping.{staying, steps_in, count_first, number_if, next_after, numbered_from, ChoosesOne}

-- ---- one element more

abbrev one_if_kept : {X : Type 0} → Option StepId → X → List X
one_if_kept None x = []
one_if_kept (Some s) x = x ∷ []

chosen_none : {X : Type 0} (kept : List (Option StepId)) (xs : List X) → xs ≡ [] → staying kept xs ≡ []
chosen_none {X} kept xs e = ap (staying kept) e ∙ go kept
  where
    none : List X
    none = []

    go : (ks : List (Option StepId)) → staying ks none ≡ []
    go [] = refl
    go (o ∷ ks) = refl

chosen_more : {X : Type 0} (kept : List (Option StepId)) (xs : List X) (x : X) → staying kept (xs ++ x ∷ []) ≡ staying kept xs ++ one_if_kept (get_or kept (length xs) None) x
chosen_more [] xs x = refl
chosen_more (None ∷ kept) [] x = chosen_none kept [] refl
chosen_more (Some s ∷ kept) [] x = ap (λ ys. x ∷ ys) (chosen_none kept [] refl)
chosen_more (None ∷ kept) (y ∷ ys) x = chosen_more kept ys x
chosen_more (Some s ∷ kept) (y ∷ ys) x = ap (λ zs. y ∷ zs) (chosen_more kept ys x)

-- ---- two elements change places

module _ {X : Type 0} (xs : List X) (to at : ℕ) (d : X) (le : to ≤ at) (lt : at < length xs) where
  as_set : set (set xs to (get_or xs at d)) at (get_or xs to d) ≡ swap xs to at
  as_set = swap_is xs to at d (omega (arith, le, lt)) lt

  swap_front : take (to + 1) (swap xs to at) ≡ take to xs ++ get_or xs at d ∷ []
  swap_front = ap (take (to + 1)) (sym as_set) ∙ elim (cases_lt to at) [
    | inl before ↦ take-set-le (to + 1) (set xs to (get_or xs at d)) at (get_or xs to d) (omega (arith, before)) ∙ take_more_set xs to (get_or xs at d) (omega (arith, le, lt))
    | inr past ↦
        let is : at ≡ to = omega (arith, past, le) in
        ap (λ k. take (to + 1) (set (set xs to (get_or xs k d)) k (get_or xs to d))) is
        ∙ take_more_set (set xs to (get_or xs to d)) to (get_or xs to d) (omega (arith, le, lt, length-set xs to (get_or xs to d)))
        ∙ ap (λ ys. ys ++ get_or xs to d ∷ []) (take-set xs to (get_or xs to d)) ∙ ap (λ k. take to xs ++ get_or xs k d ∷ []) (sym is)
  ]

  swap_past : (j : ℕ) (e : X) → at + 1 ≤ j → get_or (swap xs to at) j e ≡ get_or xs j e
  swap_past j e past = ap (λ ys. get_or ys j e) (sym as_set) ∙ get_or-set_other (set xs to (get_or xs at d)) at j (get_or xs to d) e (λ k. absurd (omega (arith, k, past)))
      ∙ get_or-set_other xs to j (get_or xs at d) e (λ k. absurd (omega (arith, k, past, le)))

-- ---- a list in place

-- up to a place those that stay stand in the first places
pub record AreChosen {X : Type 0} (kept : List (Option StepId)) (old : List X) (at to : ℕ) (now : List X) : Type 0 where
  pub within : to ≤ at
  pub size : length now ≡ length old
  pub first : take to now ≡ staying kept (take at old)
  pub rest : (j : ℕ) (d : X) → at ≤ j → get_or now j d ≡ get_or old j d

module _ {X : Type 0} (kept : List (Option StepId)) where
  pub chosen_first : (old : List X) → AreChosen kept old 0 0 old
  chosen_first old = record { within = omega arith; size = refl; first = sym (chosen_none kept (take 0 old) refl); rest = λ j d le. refl }

  with_default : (old : List X) (at to : ℕ) (now next : List X) (to2 : ℕ) (d : X) → at < length old → AreChosen kept old at to now → ChoosesOne (get_or kept at None) at to now next to2 → AreChosen kept old (at + 1) to2 next
  with_default old at to now next to2 d lt h k = go (get_or kept at None) refl k
    where
      size : length (take at old) ≡ at
      size = length-take-le at old (omega (arith, lt))

      more : staying kept (take (at + 1) old) ≡ staying kept (take at old) ++ one_if_kept (get_or kept at None) (get_or old at d)
      more = ap (staying kept) (take_more old at d lt) ∙ chosen_more kept (take at old) (get_or old at d) ∙ ap (λ n. staying kept (take at old) ++ one_if_kept (get_or kept n None) (get_or old at d)) size

      in_now : at < length now
      in_now = omega (arith, lt, h.size)

      go : (o : Option StepId) → get_or kept at None ≡ o → ChoosesOne o at to now next to2 → AreChosen kept old (at + 1) to2 next
      go None e c = record {
        within = omega (arith, h.within, c.1);
        size = ap length c.0 ∙ h.size;
        first = (λ i. take (c.1 i) (c.0 i)) ∙ h.first ∙ sym (more ∙ ap (λ o. staying kept (take at old) ++ one_if_kept o (get_or old at d)) e ∙ append-nil (staying kept (take at old)));
        rest = λ j b le. ap (λ ys. get_or ys j b) c.0 ∙ h.rest j b (omega (arith, le));
      }
      go (Some s) e c =
          let next_to : to2 ≡ to + 1 = omega (arith, c.1) in
          record {
            within = omega (arith, h.within, c.1);
            size = ap length c.0 ∙ length-swap now to at ∙ h.size;
            first = (λ i. take (next_to i) (c.0 i)) ∙ swap_front now to at d h.within in_now ∙ (λ i. h.first i ++ h.rest at d (omega arith) i ∷ [])
                ∙ sym (more ∙ ap (λ o. staying kept (take at old) ++ one_if_kept o (get_or old at d)) e);
            rest = λ j b le. ap (λ ys. get_or ys j b) c.0 ∙ swap_past now to at d h.within in_now j b le ∙ h.rest j b (omega (arith, le));
          }

  pub chosen_on : (old : List X) (at to : ℕ) (now next : List X) (to2 : ℕ) → at < length old → AreChosen kept old at to now → ChoosesOne (get_or kept at None) at to now next to2 → AreChosen kept old (at + 1) to2 next
  chosen_on [] at to now next to2 lt h k = absurd (omega (arith, lt))
  chosen_on (d ∷ ys) at to now next to2 lt h k = with_default (d ∷ ys) at to now next to2 d lt h k

-- ---- steps

pub chosen_steps : (kept : List (Option StepId)) (steps : List StepId) → length kept ≡ length steps → ((j : ℕ) (s : StepId) → get_or kept j None ≡ Some s → get_or steps j no_step ≡ s) → staying kept steps ≡ steps_in kept
chosen_steps [] [] e h = refl
chosen_steps [] (t ∷ ts) e h = refl
chosen_steps (o ∷ kept) [] e h = absurd (omega (arith, e))
chosen_steps (None ∷ kept) (t ∷ ts) e h = chosen_steps kept ts (omega (arith, e)) (λ j s k. h (suc j) s k)
chosen_steps (Some s ∷ kept) (t ∷ ts) e h = (λ i. h 0 s refl i ∷ chosen_steps kept ts (omega (arith, e)) (λ j s k. h (suc j) s k) i)

-- ---- numbers

pub numbered_more : (next : ℕ) (kept : List (Option StepId)) (o : Option StepId) → numbered_from next (kept ++ o ∷ []) ≡ numbered_from next kept ++ number_if o (next + length (steps_in kept)) ∷ []
numbered_more next [] o = ap (λ n. number_if o n ∷ []) (omega arith)
numbered_more next (None ∷ kept) o = ap (λ ns. None ∷ ns) (numbered_more next kept o)
numbered_more next (Some s ∷ kept) o = ap (λ ns. Some next ∷ ns) (numbered_more (suc next) kept o ∙ ap (λ n. numbered_from (suc next) kept ++ number_if o n ∷ []) (omega arith))

pub count_more : (kept : List (Option StepId)) (o : Option StepId) → length (steps_in (kept ++ o ∷ [])) ≡ next_after o (length (steps_in kept))
count_more [] None = refl
count_more [] (Some s) = refl
count_more (None ∷ kept) o = count_more kept o
count_more (Some s ∷ kept) o = ap suc (count_more kept o) ∙ turn o
  where
    turn : (p : Option StepId) → suc (next_after p (length (steps_in kept))) ≡ next_after p (suc (length (steps_in kept)))
    turn None = refl
    turn (Some t) = refl

pub count_at : (kept : List (Option StepId)) (n : ℕ) → n < length kept → count_first kept (n + 1) ≡ next_after (get_or kept n None) (count_first kept n)
count_at kept n lt = ap (λ ks. length (steps_in ks)) (take_more kept n None lt) ∙ count_more (take n kept) (get_or kept n None)

pub count_within : (kept : List (Option StepId)) (n : ℕ) → count_first kept n ≤ n
count_within kept zero = omega arith
count_within [] (suc n) = omega arith
count_within (None ∷ kept) (suc n) = omega (arith, count_within kept n)
count_within (Some s ∷ kept) (suc n) = omega (arith, count_within kept n)

-- up to a place the numbers are written
pub record AreNumbered (kept : List (Option StepId)) (at next : ℕ) (old now : List (Option ℕ)) : Type 0 where
  pub size : length now ≡ length old
  pub counted : next ≡ count_first kept at
  pub first : take at now ≡ numbered_from 0 (take at kept)

pub numbered_first : (kept : List (Option StepId)) (old : List (Option ℕ)) → AreNumbered kept 0 0 old old
numbered_first kept old = record { size = refl; counted = refl; first = refl }

pub numbered_on : (kept : List (Option StepId)) (at next : ℕ) (old now new : List (Option ℕ)) (next2 : ℕ) → at < length kept → length kept ≡ length old → AreNumbered kept at next old now → new ≡ set now at (number_if (get_or kept at None) next)
    → next2 ≡ next_after (get_or kept at None) next → AreNumbered kept (at + 1) next2 old new
numbered_on kept at next old now new next2 lt count h e f = record {
  size = ap length e ∙ length-set now at (number_if (get_or kept at None) next) ∙ h.size;
  counted = f ∙ ap (next_after (get_or kept at None)) h.counted ∙ sym (count_at kept at lt);
  first = ap (take (at + 1)) e ∙ take_more_set now at (number_if (get_or kept at None) next) (omega (arith, lt, count, h.size)) ∙ (λ i. h.first i ++ number_if (get_or kept at None) (h.counted i) ∷ [])
      ∙ sym (ap (numbered_from 0) (take_more kept at None lt) ∙ numbered_more 0 (take at kept) (get_or kept at None) ∙ ap (λ n. numbered_from 0 (take at kept) ++ number_if (get_or kept at None) n ∷ []) from_none);
}
  where
    from_none : 0 + length (steps_in (take at kept)) ≡ count_first kept at
    from_none = omega arith
