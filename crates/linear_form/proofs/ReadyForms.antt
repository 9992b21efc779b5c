-- What is still used is at its place, from one use to the next.
use Rattle.std.proofs.Common.{◌≡◌, ◌≢◌, ℕ, zero, suc, ◌+◌, ◌-◌, ◌<◌, ◌≤◌, ◌⊎◌, inl, inr, Option, Some, None, List, [], ◌∷◌, ◌++◌, length, get_or, take, drop, All, refl, sym, ◌∙◌, ap, subst, append_assoc, length-append, arith}
use Rattle.std.specs.List.{flat_map}
use Rattle.std.proofs.Math.Seq.{take-append_seam, drop-append_seam, get_or-append_seam}
use Rattle.std.proofs.Math.ListN.{get_or-append}
use Rattle.std.proofs.lemmas.Bool.{cases_lt}
use Rattle.std.proofs.lemmas.List.{take_more, drop_more, drop_all, get_or-drop, get_or-map, get_or_default, length-map, length-drop}
use Rattle.std.proofs.lemmas.List.Concat.{flat_map-cons}
use Rattle.term_core.specs.Tables.{TableView}
use Rattle.term_walks.specs.Orders.{Ascends}
use Rattle.term_walks.proofs.Places.{falls_before}
use Rattle.linear_form.specs.declared.known.KnownForm.{KnownForm}
use Rattle.linear_form.specs.Walks.{numbers_at, AreLast, IsKnown, AreKnownForms, SlotHolds, HeldBy, HoldsUsed}

pub ready_here : (t : TableView) (order last uses : List ℕ) (slots : List (Option KnownForm)) (tick p : ℕ) → HoldsUsed t order last slots tick → AreLast uses last → tick < length uses → p ≡ get_or uses tick p → get_or uses tick 0 < length slots → (k : ℕ) × SlotHolds t slots p k
ready_here t order last uses slots tick p ready are lt e there =
    let same : get_or uses tick 0 ≡ p = get_or_default uses tick 0 p lt ∙ sym e in
    (get_or order p 0, ready p (subst (λ n. n < length slots) same there) (subst (λ n. tick ≤ get_or last n 0) same (are tick lt)))

pub ready_next : (t : TableView) (order last uses : List ℕ) (slots new : List (Option KnownForm)) (tick p d : ℕ) → HoldsUsed t order last slots tick → d ≡ tick → d ≡ get_or last p d → p < length last → length new ≡ length slots → ((j k : ℕ) → j ≢ p → SlotHolds t slots j k → SlotHolds t new j k) → HoldsUsed t order last new (tick + 1)
ready_next t order last uses slots new tick p d ready is e lt len others j in_new le =
    others j (get_or order j 0) (λ same. (let here : get_or last j 0 ≡ tick = ap (λ n. get_or last n 0) same ∙ get_or_default last p 0 d lt ∙ sym e ∙ is in omega (arith, here, le))) (ready j (subst (λ n. j < n) len in_new) (omega (arith, le)))

pub p_fits : (uses : List ℕ) (tick p n m : ℕ) → tick < length uses → p ≡ get_or uses tick p → get_or uses tick 0 < n → n ≤ m → p < m
p_fits uses tick p n m lt e low le = let same : get_or uses tick 0 ≡ p = get_or_default uses tick 0 p lt ∙ sym e in omega (arith, same, low, le)

known_push : (t : TableView) (ks : List ℕ) (xs : List KnownForm) (k : ℕ) (x : KnownForm) → AreKnownForms t ks xs → IsKnown t k x → AreKnownForms t (ks ++ k ∷ []) (xs ++ x ∷ [])
known_push t [] [] k x h p = (p, tt)
known_push t [] (y ∷ xs) k x h p = absurd h
known_push t (j ∷ ks) [] k x h p = absurd h
known_push t (j ∷ ks) (y ∷ xs) k x h p = (h.0, known_push t ks xs k x h.1 p)

pub known_more : (t : TableView) (order uses : List ℕ) (first done tick : ℕ) (xs new : List KnownForm) (x : KnownForm) → tick ≡ first + done → tick < length uses → new ≡ xs ++ x ∷ [] → IsKnown t (get_or order (get_or uses tick 0) 0) x
    → AreKnownForms t (take done (drop first (numbers_at order uses))) xs → AreKnownForms t (take (done + 1) (drop first (numbers_at order uses))) new
known_more t order uses first done tick xs new x is lt e p h =
    let f : ℕ → ℕ = λ j. get_or order j 0 in
    let all = numbers_at order uses in
    let here : get_or (drop first all) done 0 ≡ f (get_or uses tick 0) = get_or-drop first all done 0 ∙ ap (λ n. get_or all n 0) (sym is) ∙ get_or-map f uses tick 0 0 lt in
    let long : done < length (drop first all) = omega (arith, length-drop first all, length-map uses f, is, lt) in
    subst (λ l. AreKnownForms t (take (done + 1) (drop first all)) l) (sym e)
    (subst (λ l. AreKnownForms t l (xs ++ x ∷ [])) (sym (take_more (drop first all) done 0 long)) (known_push t (take done (drop first all)) xs (get_or (drop first all) done 0) x h (subst (λ k. IsKnown t k x) (sym here) p)))

-- the places that are left are those of the terms that are left, and of the root
left_here : (needed : ℕ → List ℕ) (order uses : List ℕ) (root at tick : ℕ) → at < length order → drop tick (numbers_at order uses) ≡ flat_map needed (drop at order) ++ root ∷ []
    → drop tick (numbers_at order uses) ≡ needed (get_or order at 0) ++ (flat_map needed (drop (at + 1) order) ++ root ∷ [])
left_here needed order uses root at tick lt h = h ∙ ap (λ l. flat_map needed l ++ root ∷ []) (drop_more order at 0 lt) ∙ ap (λ l. l ++ root ∷ []) (flat_map-cons needed (get_or order at 0) (drop (at + 1) order)) ∙ append_assoc (needed (get_or order at 0)) (flat_map needed (drop (at + 1) order)) (root ∷ [])

drop_nil : (n : ℕ) → drop {A = ℕ} n [] ≡ []
drop_nil zero = refl
drop_nil (suc n) = refl

drop_drop : (n m : ℕ) (xs : List ℕ) → drop (n + m) xs ≡ drop m (drop n xs)
drop_drop zero m xs = ap (λ k. drop k xs) (let e : 0 + m ≡ m = omega arith in e)
drop_drop (suc n) m [] = drop_nil (suc n + m) ∙ sym (drop_nil m)
drop_drop (suc n) m (x ∷ xs) = ap (λ k. drop k (x ∷ xs)) (let e : suc n + m ≡ suc (n + m) = omega arith in e) ∙ drop_drop n m xs

module _ (needed : ℕ → List ℕ) (order uses : List ℕ) (root at tick k : ℕ) (lt : at < length order) (is : k ≡ get_or order at 0) (h : drop tick (numbers_at order uses) ≡ flat_map needed (drop at order) ++ root ∷ []) where
  abbrev more : List ℕ
  more = flat_map needed (drop (at + 1) order) ++ root ∷ []

  abbrev all : List ℕ
  all = numbers_at order uses

  here : drop tick all ≡ needed k ++ more
  here = left_here needed order uses root at tick lt h ∙ ap (λ n. needed n ++ more) (sym is)

  lengths : length uses - tick ≡ length (needed k) + (length (flat_map needed (drop (at + 1) order)) + 1)
  lengths = ap (λ n. n - tick) (sym (length-map uses (λ j. get_or order j 0))) ∙ sym (length-drop tick all) ∙ ap length here ∙ length-append (needed k) more ∙ ap (λ n. length (needed k) + n) (length-append (flat_map needed (drop (at + 1) order)) (root ∷ []))

  pub left_fits : (count : ℕ) → count ≡ length (needed k) → tick + count < length uses
  left_fits count e = omega (arith, lengths, e)

  pub left_known : (count : ℕ) → count ≡ length (needed k) → take count (drop tick all) ≡ needed k
  left_known count e = ap (λ n. take n (drop tick all)) e ∙ ap (take (length (needed k))) here ∙ take-append_seam (needed k) more

  pub left_next : (count : ℕ) → count ≡ length (needed k) → drop (tick + count) all ≡ more
  left_next count e = drop_drop tick count all ∙ ap (λ n. drop n (drop tick all)) e ∙ ap (drop (length (needed k))) here ∙ drop-append_seam (needed k) more

  pub left_before : (count : ℕ) → count ≡ length (needed k) → Ascends order → All (λ j. j < length order) uses → All (λ a. a < k) (needed k) → (i : ℕ) → tick ≤ i → i < tick + count → get_or uses i 0 < at
  left_before count e ascends inside before t le low =
      let fits = left_fits count e in
      let t_in : t < length uses = omega (arith, fits, low) in
      let j = t - tick in
      let j_in : j < length (needed k) = omega (arith, le, low, e) in
      let which : get_or order (get_or uses t 0) 0 ≡ get_or (needed k) j 0 =
      sym (get_or-map (λ j. get_or order j 0) uses t 0 0 t_in) ∙ ap (λ n. get_or all n 0) (let s : t ≡ tick + j = omega (arith, le) in s) ∙ sym (get_or-drop tick all j 0) ∙ ap (λ l. get_or l j 0) here ∙ get_or-append (needed k) more 0 j j_in in
      falls_before order ascends (get_or uses t 0) at (inside t 0 t_in) (subst (λ n. get_or order (get_or uses t 0) 0 < n) is (subst (λ n. n < k) (sym which) (before j 0 j_in)))

-- at the end only the root is left
module _ (needed : ℕ → List ℕ) (order uses : List ℕ) (root at tick : ℕ) (le : length order ≤ at) (h : drop tick (numbers_at order uses) ≡ flat_map needed (drop at order) ++ root ∷ []) where
  last_one : drop tick (numbers_at order uses) ≡ root ∷ []
  last_one = h ∙ ap (λ l. flat_map needed l ++ root ∷ []) (drop_all at order le)

  pub end_fits : tick < length uses
  end_fits = let e : length uses - tick ≡ 1 = ap (λ n. n - tick) (sym (length-map uses (λ j. get_or order j 0))) ∙ sym (length-drop tick (numbers_at order uses)) ∙ ap length last_one in omega (arith, e)

  pub end_root : get_or order (get_or uses tick 0) 0 ≡ root
  end_root = sym (get_or-map (λ j. get_or order j 0) uses tick 0 0 end_fits) ∙ ap (λ n. get_or (numbers_at order uses) n 0) (let s : tick ≡ tick + 0 = omega arith in s) ∙ sym (get_or-drop tick (numbers_at order uses) 0 0) ∙ ap (λ l. get_or l 0 0) last_one

-- one more is there
pub ready_more : (t : TableView) (order last : List ℕ) (slots new : List (Option KnownForm)) (x : KnownForm) (at tick : ℕ) → HoldsUsed t order last slots tick → new ≡ slots ++ Some x ∷ [] → length slots ≡ at → IsKnown t (get_or order at 0) x → HoldsUsed t order last new tick
ready_more t order last slots new x at tick ready e len p j lt le = subst (λ l. SlotHolds t l j (get_or order j 0)) (sym e) (by (cases_lt j (length slots)))
  where
    by : (j < length slots) ⊎ (length slots ≤ j) → SlotHolds t (slots ++ Some x ∷ []) j (get_or order j 0)
    by (inl a) = subst (HeldBy t (get_or order j 0)) (sym (get_or-append slots (Some x ∷ []) None j a)) (ready j a le)
    by (inr a) =
        let here : length slots ≡ j = omega (arith, a, lt, ap length e, length-append slots (Some x ∷ [])) in
        subst (λ n. SlotHolds t (slots ++ Some x ∷ []) n (get_or order n 0)) here (subst (λ o. HeldBy t (get_or order (length slots) 0) o) (sym (get_or-append_seam slots (Some x) [] None)) (subst (λ n. IsKnown t (get_or order n 0) x) (sym len) p))
