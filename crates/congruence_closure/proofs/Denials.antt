-- Held literals, and the places of denials.
use Rattle.std.proofs.Common.{◌≡◌, ℕ, ◌+◌, ◌*◌, ◌<◌, ◌≤◌, ◌==◌, Bool, true, false, List, [], ◌∷◌, ◌++◌, length, get_or, set, map, inl, inr, ◌⊎◌, sym, ap, ◌∙◌, subst, arith, true≢false, if◌then◌else◌}
use Rattle.std.specs.Prelude.{Contains}
use Rattle.std.specs.List.{list_any}
use Rattle.std.proofs.lemmas.Bool.{cases_lt, cases_Bool}
use Rattle.std.proofs.lemmas.Bool.Decides.{Decides-eqb}
use Rattle.std.proofs.lemmas.List.{length-map, length_push, length-set, get_or-map, get_or-set_same, get_or-set_other, get_or_append_left, get_or_push, get_or_default}
use Rattle.std.proofs.lemmas.List.Elements.{Contains-get_or}
use Rattle.std.proofs.lemmas.Map.Keys.{IsDistinct-from_apart}
use Rattle.std.proofs.lemmas.Map.Steps.{length-le_from_distinct_below}
use Rattle.std.proofs.lemmas.Map.Made.{is_member-Decides}
use Rattle.term_core.specs.declared.ids.Lit.{Lit}
use Rattle.congruence_closure.specs.Listed.{no_lit, held_at}
use Rattle.congruence_closure.specs.Tables.{AreGrown, AreDenials, noted}

-- a place is one of the older ones, or the last
pub places : {X : Type 0} → (xs : List X) (x : X) (i : ℕ) → i < length (xs ++ x ∷ []) → (i < length xs) ⊎ (i ≡ length xs)
places xs x i a = elim (cases_lt i (length xs)) [
  | inl lt ↦ inl lt
  | inr past ↦ inr (omega (arith, past, a, length_push xs x))
]

pub held_before : (held : List Lit) (l : Lit) (i : ℕ) → i < length held → held_at (held ++ l ∷ []) i ≡ held_at held i
held_before held l i lt = get_or_append_left held (l ∷ []) no_lit i lt

pub held_last : (held : List Lit) (l : Lit) (i : ℕ) → i ≡ length held → held_at (held ++ l ∷ []) i ≡ l
held_last held l i e = get_or_push held l no_lit i (sym e)

-- what a place has is contained
pub held_there : (held : List Lit) (j : ℕ) → j < length held → Contains held (held_at held j)
held_there held j lt = Contains-get_or held j no_lit lt

-- what is contained has a place
pub place_there : (held : List Lit) (l : Lit) → Contains held l → (j : ℕ) × (j < length held) × (held_at held j ≡ l)
place_there held l there = (there.0, there.1, get_or_default held there.0 no_lit l there.1 ∙ there.2)

-- each literal once, with one more that is not held
pub once_push : (held : List Lit) (l : Lit) → ((i j : ℕ) → i < j → j < length held → held_at held i ≡ held_at held j → ⊥) → (Contains held l → ⊥)
    → (i j : ℕ) → i < j → j < length (held ++ l ∷ []) → held_at (held ++ l ∷ []) i ≡ held_at (held ++ l ∷ []) j → ⊥
once_push held l once absent i j low within e = go (places held l j within)
  where
    go : (j < length held) ⊎ (j ≡ length held) → ⊥
    go (inl lt) = once i j low lt (sym (held_before held l i (omega (arith, low, lt))) ∙ e ∙ held_before held l j lt)
    go (inr last) =
        let lt : i < length held = omega (arith, low, last) in
        absent (subst (Contains held) (sym (held_before held l i lt) ∙ e ∙ held_last held l j last) (held_there held i lt))

-- one literal more
pub denials_push : (held : List Lit) (denials : List ℕ) (capacity : ℕ) (l : Lit) → AreDenials held denials capacity → l.term.0 < length denials → (Contains held l → ⊥)
    → AreDenials (held ++ l ∷ []) (noted denials l (length held)) capacity
denials_push held denials capacity l h there absent = record {
  low = λ j a. low j (places held l j a);
  once = once_push held l h.once absent;
  places = λ j a n. at (cases_Bool l.positive) j (places held l j a) n;
  room = omega (arith, h.room, size);
}
  where
    size : length (noted denials l (length held)) ≡ length denials
    size = elim (cases_Bool l.positive) [
      | inl plain ↦ ap (λ b. length (if b then denials else set denials l.term.0 (length held))) plain
      | inr negated ↦ ap (λ b. length (if b then denials else set denials l.term.0 (length held))) negated ∙ length-set denials l.term.0 (length held)
    ]

    low : (j : ℕ) → (j < length held) ⊎ (j ≡ length held) → (held_at (held ++ l ∷ []) j).term.0 < length (noted denials l (length held))
    low j (inl a) = subst (λ n. (held_at (held ++ l ∷ []) j).term.0 < n) (sym size) (subst (λ (m : Lit). m.term.0 < length denials) (sym (held_before held l j a)) (h.low j a))
    low j (inr a) = subst (λ n. (held_at (held ++ l ∷ []) j).term.0 < n) (sym size) (subst (λ (m : Lit). m.term.0 < length denials) (sym (held_last held l j a)) there)

    at : (l.positive ≡ true) ⊎ (l.positive ≡ false) → (j : ℕ) → (j < length held) ⊎ (j ≡ length held) → (held_at (held ++ l ∷ []) j).positive ≡ false
        → get_or (noted denials l (length held)) (held_at (held ++ l ∷ []) j).term.0 0 ≡ j
    at (inl plain) j (inl a) n = ap (λ b. get_or (if b then denials else set denials l.term.0 (length held)) (held_at (held ++ l ∷ []) j).term.0 0) plain
        ∙ ap (λ (m : Lit). get_or denials m.term.0 0) (held_before held l j a) ∙ h.places j a (sym (ap (λ (m : Lit). m.positive) (held_before held l j a)) ∙ n)
    at (inl plain) j (inr a) n = absurd (true≢false (sym plain ∙ sym (ap (λ (m : Lit). m.positive) (held_last held l j a)) ∙ n))
    at (inr negated) j (inl a) n =
        let m_false : (held_at held j).positive ≡ false = sym (ap (λ (m : Lit). m.positive) (held_before held l j a)) ∙ n in
        ap (λ b. get_or (if b then denials else set denials l.term.0 (length held)) (held_at (held ++ l ∷ []) j).term.0 0) negated
        ∙ ap (λ (m : Lit). get_or (set denials l.term.0 (length held)) m.term.0 0) (held_before held l j a)
        ∙ get_or-set_other denials l.term.0 (held_at held j).term.0 (length held) 0 (λ e. absent (subst (Contains held) (λ i. record { term = record { 0 = e i }; positive = (m_false ∙ sym negated) i }) (held_there held j a)))
        ∙ h.places j a m_false
    at (inr negated) j (inr a) n = ap (λ b. get_or (if b then denials else set denials l.term.0 (length held)) (held_at (held ++ l ∷ []) j).term.0 0) negated
        ∙ ap (λ (m : Lit). get_or (set denials l.term.0 (length held)) m.term.0 0) (held_last held l j a)
        ∙ get_or-set_same denials l.term.0 (length held) 0 there ∙ sym a

-- a number for each literal
abbrev code : Lit → ℕ
code l = 2 * l.term.0 + (if l.positive then 1 else 0)

-- different literals have different ones
code_same : (l m : Lit) → code l ≡ code m → l ≡ m
code_same l m e = go (cases_Bool l.positive) (cases_Bool m.positive)
  where
    of : (n : Lit) (b : Bool) → n.positive ≡ b → code n ≡ 2 * n.term.0 + (if b then 1 else 0)
    of n b p = ap (λ b. 2 * n.term.0 + (if b then 1 else 0)) p

    go : (l.positive ≡ true) ⊎ (l.positive ≡ false) → (m.positive ≡ true) ⊎ (m.positive ≡ false) → l ≡ m
    go (inl p) (inl q) =
        let t : l.term.0 ≡ m.term.0 = omega (arith, of l true p, of m true q, e) in
        λ i. record { term = record { 0 = t i }; positive = (p ∙ sym q) i }
    go (inl p) (inr q) = absurd (omega (arith, of l true p, of m false q, e))
    go (inr p) (inl q) = absurd (omega (arith, of l false p, of m true q, e))
    go (inr p) (inr q) =
        let t : l.term.0 ≡ m.term.0 = omega (arith, of l false p, of m false q, e) in
        λ i. record { term = record { 0 = t i }; positive = (p ∙ sym q) i }

-- it is below twice a bound of the terms
code_low : (l : Lit) (n : ℕ) → l.term.0 < n → code l < 2 * n
code_low l n lt = elim (cases_Bool l.positive) [
  | inl p ↦ let e : code l ≡ 2 * l.term.0 + 1 = ap (λ b. 2 * l.term.0 + (if b then 1 else 0)) p in omega (arith, e, lt)
  | inr p ↦ let e : code l ≡ 2 * l.term.0 + 0 = ap (λ b. 2 * l.term.0 + (if b then 1 else 0)) p in omega (arith, e, lt)
]

-- of n terms there are at most twice n literals
pub few_literals : (held : List Lit) (n : ℕ) → ((j : ℕ) → j < length held → (held_at held j).term.0 < n) → ((i j : ℕ) → i < j → j < length held → held_at held i ≡ held_at held j → ⊥) → length held ≤ 2 * n
few_literals held n low once = omega (arith, length-map held code, length-le_from_distinct_below (map code held) (2 * n) (IsDistinct-from_apart _ (map code held) apart) below)
  where
    at : (j d : ℕ) → j < length held → get_or (map code held) j d ≡ code (held_at held j)
    at j d lt = get_or-map code held j no_lit d lt

    apart : (i j d : ℕ) → i < j → j < length (map code held) → (get_or (map code held) i d == get_or (map code held) j d) ≡ false
    apart i j d ij within =
        let lj : j < length held = omega (arith, within, length-map held code) in
        let li : i < length held = omega (arith, ij, lj) in
        elim (cases_Bool (get_or (map code held) i d == get_or (map code held) j d)) [
          | inl same ↦ absurd (once i j ij lj (code_same (held_at held i) (held_at held j) (sym (at i d li) ∙ (Decides-eqb (get_or (map code held) i d) (get_or (map code held) j d)).0 same ∙ at j d lj)))
          | inr other ↦ other
        ]

    below : (q : ℕ) → list_any (λ y. q == y) (map code held) ≡ true → q < 2 * n
    below q e =
        let m = (is_member-Decides Decides-eqb (map code held) q).0 e in
        let lt : m.0 < length held = omega (arith, m.1, length-map held code) in
        subst (λ k. k < 2 * n) (sym (at m.0 q lt) ∙ m.2) (code_low (held_at held m.0) n (low m.0 lt))

-- there is room for one more that is not held
pub room_left : (held : List Lit) (denials : List ℕ) (capacity : ℕ) (l : Lit) → AreDenials held denials capacity → l.term.0 < length denials → (Contains held l → ⊥) → length held < capacity
room_left held denials capacity l h there absent =
    let few = few_literals (held ++ l ∷ []) (length denials) low (once_push held l h.once absent) in
    omega (arith, few, length_push held l, h.room)
  where
    low : (j : ℕ) → j < length (held ++ l ∷ []) → (held_at (held ++ l ∷ []) j).term.0 < length denials
    low j a = go (places held l j a)
      where
        go : (j < length held) ⊎ (j ≡ length held) → (held_at (held ++ l ∷ []) j).term.0 < length denials
        go (inl lt) = subst (λ (m : Lit). m.term.0 < length denials) (sym (held_before held l j lt)) (h.low j lt)
        go (inr last) = subst (λ (m : Lit). m.term.0 < length denials) (sym (held_last held l j last)) there

-- more room, and more entries
pub denials_grown : (held : List Lit) (denials grown : List ℕ) (capacity more : ℕ) → AreDenials held denials capacity → AreGrown denials grown → 2 * length grown ≤ more → AreDenials held grown more
denials_grown held denials grown capacity more h grew fits = record {
  low = λ j a. omega (arith, h.low j a, grew.longer);
  once = h.once;
  places = λ j a n. grew.same (held_at held j).term.0 (h.low j a) ∙ h.places j a n;
  room = fits;
}
