-- Which terms are in one class after two classes were joined, and after terms were added.
use Rattle.std.proofs.Common.{arith, ◌≡◌, ◌∙◌, ◌⊎◌, ◌↔◌, ◌+◌, ◌-◌, ◌<◌, ◌≤◌, ◌++◌, ◌==◌, nat_le, max, ℕ, Bool, true, false, List, length, get_or, if◌then◌else◌, inl, inr, sym, ap}
use Rattle.std.specs.List.{range_with_len}
use Rattle.std.proofs.lemmas.Bool.Decides.{nat_tests}
use Rattle.std.proofs.lemmas.List.{length-append, get_or-map, get_or_append_left, get_or-append-add}
use Rattle.std.proofs.lemmas.List.FromFn.{length-range_with_len, get_or-range_with_len}
use Rattle.term_core.specs.declared.ids.TermId.{TermId}
use Rattle.class_table.specs.Classes.{class_at, AreSame, members_count, renumbered, joined, with_terms}
use Rattle.class_table.proofs.Growth.{length-renumbered}

-- what holds of either way to renumber holds of the joined classes
by_either : (P : List ℕ → Type 0) (numbers : List ℕ) (a b : TermId) → P (renumbered (class_at numbers a) (class_at numbers b) numbers)
    → P (renumbered (class_at numbers b) (class_at numbers a) numbers) → P (joined a b numbers)
by_either P numbers a b p q = go (nat_le (members_count numbers (class_at numbers a)) (members_count numbers (class_at numbers b)))
  where
    go : (c : Bool) → P (if c then renumbered (class_at numbers a) (class_at numbers b) numbers else renumbered (class_at numbers b) (class_at numbers a) numbers)
    go true = p
    go false = q

pub length-joined : (numbers : List ℕ) (a b : TermId) → length (joined a b numbers) ≡ length numbers
length-joined numbers a b =
    by_either (λ ns. length ns ≡ length numbers) numbers a b (length-renumbered (class_at numbers a) (class_at numbers b) numbers) (length-renumbered (class_at numbers b) (class_at numbers a) numbers)

-- the terms of one class go to another
renumbered_same : (from into : ℕ) (numbers : List ℕ) (t u : TermId) → t.0 < length numbers → u.0 < length numbers
    → AreSame (renumbered from into numbers) t u
    ↔ (AreSame numbers t u ⊎ ((class_at numbers t ≡ from) × (class_at numbers u ≡ into)) ⊎ ((class_at numbers t ≡ into) × (class_at numbers u ≡ from)))
renumbered_same from into numbers t u ht hu =
    let at_t : class_at (renumbered from into numbers) t ≡ (if class_at numbers t == from then into else class_at numbers t) = get_or-map (λ c. if c == from then into else c) numbers t.0 0 0 ht in
    let at_u : class_at (renumbered from into numbers) u ≡ (if class_at numbers u == from then into else class_at numbers u) = get_or-map (λ c. if c == from then into else c) numbers u.0 0 0 hu in
    (λ e. grind (arith, nat_tests), λ e. grind (arith, nat_tests))

pub joined_same : (numbers : List ℕ) (a b t u : TermId) → t.0 < length numbers → u.0 < length numbers
    → AreSame (joined a b numbers) t u
    ↔ (AreSame numbers t u ⊎ (AreSame numbers t a × AreSame numbers u b) ⊎ (AreSame numbers t b × AreSame numbers u a))
joined_same numbers a b t u ht hu =
    let one = renumbered_same (class_at numbers a) (class_at numbers b) numbers t u ht hu in
    let other = renumbered_same (class_at numbers b) (class_at numbers a) numbers t u ht hu in
    by_either (λ ns. AreSame ns t u ↔ (AreSame numbers t u ⊎ (AreSame numbers t a × AreSame numbers u b) ⊎ (AreSame numbers t b × AreSame numbers u a))) numbers a b one
    (λ e. turned (other.0 e), λ e. other.1 (turned e))
  where
    turned : {A B C : Type 0} → A ⊎ B ⊎ C → A ⊎ C ⊎ B
    turned (inl x) = inl x
    turned (inr (inl y)) = inr (inr y)
    turned (inr (inr z)) = inr (inl z)

pub length-with_terms : (numbers : List ℕ) (count : ℕ) → length (with_terms count numbers) ≡ max (length numbers) count
length-with_terms numbers count =
    omega (arith, length-append numbers (range_with_len (length numbers) (count - length numbers)), length-range_with_len (length numbers) (count - length numbers))

pub others_kept : (numbers : List ℕ) (count : ℕ) (t : TermId) → t.0 < length numbers → class_at (with_terms count numbers) t ≡ class_at numbers t
others_kept numbers count t h = get_or_append_left numbers (range_with_len (length numbers) (count - length numbers)) 0 t.0 h

pub added_alone : (numbers : List ℕ) (count : ℕ) (t : TermId) → length numbers ≤ t.0 → t.0 < count → class_at (with_terms count numbers) t ≡ t.0
added_alone numbers count t h low =
    let k = t.0 - length numbers in
    let back : length numbers + k ≡ t.0 = omega (arith, h) in
    let xs = range_with_len (length numbers) (count - length numbers) in
    ap (λ i. get_or (numbers ++ xs) i 0) (sym back) ∙ get_or-append-add numbers xs k 0
    ∙ get_or-range_with_len (length numbers) (count - length numbers) k 0 (omega (arith, h, low)) ∙ back
