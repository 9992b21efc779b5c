-- Lists of consecutive numbers, how often a number is in a list, and rows with places written.
use Rattle.std.proofs.Common.{arith, ◌≡◌, ◌≢◌, ◌∙◌, ◌⊎◌, ℕ, zero, suc, ◌+◌, ◌<◌, ◌≤◌, ◌==◌, ◌&&◌, nat_le, nat_lt, List, [], ◌∷◌, ◌++◌, length, take, slice_index, slice_set, if◌then◌else◌, inl, inr, refl, sym, ap, ap₂}
use Rattle.std.specs.List.{range_with_len}
use Rattle.std.proofs.lemmas.Bool.{cases_eq}
use Rattle.std.proofs.lemmas.Bool.Decides.{nat_tests}
use Rattle.std.proofs.lemmas.List.Recursion.{is_count_by}
use Rattle.class_table.specs.Rings.{occurrences}
use Rattle.class_table.specs.Classes.{renumbered, members_count}

-- consecutive numbers, and those that follow them
pub range_follow : (a m n b : ℕ) → a + m ≡ b → range_with_len a (m + n) ≡ range_with_len a m ++ range_with_len b n
range_follow a zero n b e =
    let few : zero + n ≡ n = omega arith in
    let none : a ≡ b = omega (arith, e) in
    ap (range_with_len a) few ∙ ap (λ c. range_with_len c n) none
range_follow a (suc m) n b e =
    let more : suc m + n ≡ suc (m + n) = omega arith in
    let next : a + 1 + m ≡ b = omega (arith, e) in
    ap (range_with_len a) more ∙ ap (λ ns. a ∷ ns) (range_follow (a + 1) m n b next)

-- the first of them
pub take_range : (a k n : ℕ) → k ≤ n → take k (range_with_len a n) ≡ range_with_len a k
take_range a zero n h = refl
take_range a (suc k) zero h = absurd (omega (arith, h))
take_range a (suc k) (suc n) h = ap (λ ns. a ∷ ns) (take_range (a + 1) k n (omega (arith, h)))

-- a class that no term has is renumbered
pub range_kept : (from into a n : ℕ) → from < a → renumbered from into (range_with_len a n) ≡ range_with_len a n
range_kept from into a zero h = refl
range_kept from into a (suc n) h = ap₂ (λ x ns. x ∷ ns) (grind (arith, nat_tests, h)) (range_kept from into (a + 1) n (omega (arith, h)))

pub occurrences-append : (t : ℕ) (xs ys : List ℕ) → occurrences t (xs ++ ys) ≡ occurrences t xs + occurrences t ys
occurrences-append t [] ys = omega arith
occurrences-append t (x ∷ xs) ys = omega (arith, occurrences-append t xs ys)

-- contracts count the same
pub occurrences-count : (class : ℕ) (numbers : List ℕ) → occurrences class numbers ≡ members_count numbers class
occurrences-count class = is_count_by (occurrences class) (λ number. number == class) refl (λ x xs. grind (arith, nat_tests))

-- each of consecutive numbers is there once
pub occurrences-range : (t a n : ℕ) → occurrences t (range_with_len a n) ≡ (if nat_le a t && nat_lt t (a + n) then 1 else 0)
occurrences-range t a zero = grind (arith, nat_tests)
occurrences-range t a (suc n) = ap (λ k. (if t == a then 1 else 0) + k) (occurrences-range t (a + 1) n) ∙ grind (arith, nat_tests)

-- what is in a list occurs in it
pub occurs : (t : ℕ) (xs : List ℕ) (k : ℕ) → k < length xs → slice_index xs k ≡ t → 0 < occurrences t xs
occurs t [] k h e = absurd (omega (arith, h))
occurs t (x ∷ xs) zero h e = grind (arith, nat_tests, e)
occurs t (x ∷ xs) (suc k) h e = let rest : 0 < occurrences t xs = occurs t xs k (omega (arith, h)) e in omega (arith, rest)

-- and the other way round
pub has_place : (t : ℕ) (xs : List ℕ) → 0 < occurrences t xs → (k : ℕ) × (k < length xs) × (slice_index xs k ≡ t)
has_place t [] h = absurd (omega (arith, h))
has_place t (x ∷ xs) h = go (cases_eq t x) (has_place t xs)
  where
    go : (t ≡ x) ⊎ (t ≢ x) → (0 < occurrences t xs → (k : ℕ) × (k < length xs) × (slice_index xs k ≡ t)) → (k : ℕ) × (k < length (x ∷ xs)) × (slice_index (x ∷ xs) k ≡ t)
    go (inl e) rest = (zero, omega arith, sym e)
    go (inr e) rest = let r = rest (grind (arith, nat_tests, h, e)) in (suc r.0, omega (arith, r.1), r.2)

-- no list has more of two numbers than its length
pub occurrences_two : (x y : ℕ) (xs : List ℕ) → x ≢ y → occurrences x xs + occurrences y xs ≤ length xs
occurrences_two x y [] apart = omega arith
occurrences_two x y (z ∷ xs) apart = let rest = occurrences_two x y xs apart in grind (arith, nat_tests)

-- the terms of both classes are in one
pub occurrences_joined : (from into : ℕ) (ns : List ℕ) → from ≢ into → occurrences into (renumbered from into ns) ≡ occurrences from ns + occurrences into ns
occurrences_joined from into [] apart = refl
occurrences_joined from into (n ∷ ns) apart = let rest = occurrences_joined from into ns apart in grind (arith, nat_tests)

-- the other classes have the terms that they had
pub occurrences_other : (from into c : ℕ) (ns : List ℕ) → c ≢ from → c ≢ into → occurrences c (renumbered from into ns) ≡ occurrences c ns
occurrences_other from into c [] p q = refl
occurrences_other from into c (n ∷ ns) p q = let rest = occurrences_other from into c ns p q in grind (arith, nat_tests)

-- what is written back was there
pub set_back : (xs : List ℕ) (i x : ℕ) → slice_set (slice_set xs i x) i (slice_index xs i) ≡ xs
set_back [] i x = refl
set_back (y ∷ xs) zero x = refl
set_back (y ∷ xs) (suc i) x = ap (λ l. y ∷ l) (set_back xs i x)
