-- Places of numbers that ascend.
use Rattle.std.proofs.Common.{◌≡◌, ℕ, ◌<◌, ◌≤◌, inl, inr, Result, Err, List, length, get_or, ap, subst, arith}
use Rattle.std.specs.Ordering.{nat_cmp}
use Rattle.std.specs.List.Sorted.{IsBinarySearchResult}
use Rattle.std.proofs.lemmas.List.Sorted.{searched}
use Rattle.std.proofs.lemmas.Bool.{cases_lt}
use Rattle.term_walks.specs.Orders.{In, Ascends}
use Rattle.term_walks.proofs.Among.{in_place, rises}

never_falls : (xs : List ℕ) → Ascends xs → (i j : ℕ) → i ≤ j → j < length xs → get_or xs i 0 ≤ get_or xs j 0
never_falls xs a i j le lt = elim (cases_lt i j) [
  | inl h ↦ (let r = rises xs a i j h lt in omega (arith, r))
  | inr h ↦ (let same : get_or xs i 0 ≡ get_or xs j 0 = ap (λ n. get_or xs n 0) (let e : i ≡ j = omega (arith, h, le) in e) in omega (arith, same))
]

-- what is at a place before another is less
pub falls_before : (xs : List ℕ) → Ascends xs → (i j : ℕ) → i < length xs → get_or xs i 0 < get_or xs j 0 → i < j
falls_before xs a i j lt h = elim (cases_lt i j) [ inl l ↦ l | inr l ↦ (let r = never_falls xs a j i l lt in absurd (omega (arith, r, h))) ]

-- a number is at one place
pub one_place : (xs : List ℕ) → Ascends xs → (i j : ℕ) → i < length xs → j < length xs → get_or xs i 0 ≡ get_or xs j 0 → i ≡ j
one_place xs a i j li lj e = elim (cases_lt i j) [
  | inl l ↦ (let r = rises xs a i j l lj in absurd (omega (arith, r, e)))
  | inr l ↦ elim (cases_lt j i) [ inl m ↦ (let r = rises xs a j i m li in absurd (omega (arith, r, e))) | inr m ↦ omega (arith, l, m) ]
]

pub missing : (xs : List ℕ) (x : ℕ) (r : Result ℕ ℕ) (i : ℕ) → Ascends xs → In x xs → r ≡ Err i → IsBinarySearchResult (λ y. nat_cmp y x) xs r → ⊥
missing xs x r i a h e s =
    let p = in_place x xs h in
    let m = searched xs x (Err i) (subst (IsBinarySearchResult (λ y. nat_cmp y x) xs) e s) (never_falls xs a) in
    elim (cases_lt p.0 i) [ inl l ↦ (let q = m.1 p.0 l in omega (arith, q, p.2)) | inr l ↦ (let q = m.2 p.0 l p.1 in omega (arith, q, p.2)) ]
