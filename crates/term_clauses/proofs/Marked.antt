-- Lists of terms whose numbers are marked.
use Rattle.std.proofs.Common.{◌≡◌, ◌≢◌, ℕ, zero, suc, ◌<◌, ◌≤◌, Bool, true, false, if◌then◌else◌, List, [], ◌∷◌, ◌++◌, length, get_or, take, Contains, inl, inr, refl, sym, ap, ◌∙◌, arith}
use Rattle.std.proofs.lemmas.Bool.{false≢true}
use Rattle.std.proofs.lemmas.List.Kept.{AllPairs-cons}
use Rattle.std.proofs.lemmas.List.Elements.{Contains-get_or}
use Rattle.spec_text.proofs.Members.{first, later, cases, none}
use Rattle.spec_sorts.specs.Terms.{Term, no_term}
use Rattle.spec_sorts.specs.Subsets.{AreOnce}
use Rattle.term_core.specs.Tables.{AreDifferent}
use Rattle.term_clauses.specs.Marks.{IsMarked, marked}

-- no number is marked beyond the marks
pub marked_below : (marks : List Bool) (k : ℕ) → IsMarked marks k → k < length marks
marked_below [] k e = absurd (false≢true e)
marked_below (m ∷ ms) zero e = omega arith
marked_below (m ∷ ms) (suc k) e = let lt = marked_below ms k e in omega arith

-- the term of a marked number
pub in_marked : (marks : List Bool) (ts : List Term) → length marks ≤ length ts → (k : ℕ) → IsMarked marks k → Contains (marked marks ts) (get_or ts k no_term)
in_marked [] ts le k e = absurd (false≢true e)
in_marked (m ∷ ms) [] le k e = absurd (omega (arith, le))
in_marked (true ∷ ms) (t ∷ ts) le zero e = first t (marked ms ts)
in_marked (false ∷ ms) (t ∷ ts) le zero e = absurd (false≢true e)
in_marked (true ∷ ms) (t ∷ ts) le (suc k) e = later t (marked ms ts) (get_or ts k no_term) (in_marked ms ts (omega (arith, le)) k e)
in_marked (false ∷ ms) (t ∷ ts) le (suc k) e = in_marked ms ts (omega (arith, le)) k e

-- a marked number with that term
abbrev pub HasMarked : List Term → List Bool → Term → Type 0
HasMarked ts marks u = (k : ℕ) × IsMarked marks k × (get_or ts k no_term ≡ u)

pub from_marked : (marks : List Bool) (ts : List Term) (u : Term) → Contains (marked marks ts) u → HasMarked ts marks u
from_marked [] ts u h = absurd (none u h)
from_marked (true ∷ ms) [] u h = absurd (none u h)
from_marked (false ∷ ms) [] u h = absurd (none u h)
from_marked (true ∷ ms) (t ∷ ts) u h = elim (cases t (marked ms ts) u h) [
  | inl e ↦ (zero, refl, e)
  | inr rest ↦ let r = from_marked ms ts u rest in (suc r.0, r.1, r.2)
]
from_marked (false ∷ ms) (t ∷ ts) u h = let r = from_marked ms ts u h in (suc r.0, r.1, r.2)

-- terms after the first of different ones
apart_behind : (t : Term) (ts : List Term) → AreDifferent (t ∷ ts) → AreDifferent ts
apart_behind t ts apart i j lt_i lt_j e = let same : suc i ≡ suc j = apart (suc i) (suc j) (omega (arith, lt_i)) (omega (arith, lt_j)) e in omega (arith, same)

-- one mark more
pub marked_more : (marks : List Bool) (ts : List Term) (n : ℕ) → n < length marks → length marks ≤ length ts → marked (take (suc n) marks) ts ≡ marked (take n marks) ts ++ (if get_or marks n false then get_or ts n no_term ∷ [] else [])
marked_more [] ts n lt le = absurd (omega (arith, lt))
marked_more (m ∷ ms) [] n lt le = absurd (omega (arith, le))
marked_more (true ∷ []) (t ∷ ts) zero lt le = refl
marked_more (false ∷ []) (t ∷ ts) zero lt le = refl
marked_more (true ∷ m ∷ ms) (t ∷ ts) zero lt le = refl
marked_more (false ∷ m ∷ ms) (t ∷ ts) zero lt le = refl
marked_more (true ∷ ms) (t ∷ ts) (suc n) lt le = ap (λ us. t ∷ us) (marked_more ms ts n (omega (arith, lt)) (omega (arith, le)))
marked_more (false ∷ ms) (t ∷ ts) (suc n) lt le = marked_more ms ts n (omega (arith, lt)) (omega (arith, le))

-- different terms are marked once
pub marked_once : (marks : List Bool) (ts : List Term) → length marks ≤ length ts → AreDifferent ts → AreOnce (marked marks ts)
marked_once [] ts le apart = λ i j d lt within. absurd (omega (arith, within))
marked_once (m ∷ ms) [] le apart = absurd (omega (arith, le))
marked_once (false ∷ ms) (t ∷ ts) le apart = marked_once ms ts (omega (arith, le)) (apart_behind t ts apart)
marked_once (true ∷ ms) (t ∷ ts) le apart = AllPairs-cons (λ x y. x ≢ y) t (marked ms ts) (λ k d lt. new k d lt) (marked_once ms ts (omega (arith, le)) (apart_behind t ts apart))
  where
    new : (k : ℕ) (d : Term) → k < length (marked ms ts) → t ≢ get_or (marked ms ts) k d
    new k d lt e =
        let h = from_marked ms ts (get_or (marked ms ts) k d) (Contains-get_or (marked ms ts) k d lt) in
        let below = marked_below ms h.0 h.1 in
        let same : zero ≡ suc h.0 = apart zero (suc h.0) (omega arith) (omega (arith, below, le)) (e ∙ sym h.2) in
        omega (arith, same)
