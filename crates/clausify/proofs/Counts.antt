-- Lists of different terms with the same members have clauses in the same number.
use Rattle.std.proofs.Common.{◌≡◌, ℕ, zero, suc, ◌+◌, ◌<◌, List, [], ◌∷◌, ◌++◌, length, get_or, Contains, inl, inr, refl, sym, ap, ◌∙◌, subst, arith}
use Rattle.std.specs.Prelude.{flat_map}
use Rattle.std.specs.List.{sum_by}
use Rattle.std.proofs.lemmas.List.Concat.{length-flat_map}
use Rattle.std.proofs.lemmas.List.Sums.{sum_by-append, sum_by-cons}
use Rattle.std.proofs.lemmas.List.Elements.{Contains-append_left, Contains-append_right, Contains-append_cases}
use Rattle.spec_text.proofs.Members.{first, later, cases, none}
use Rattle.spec_sorts.specs.Terms.{Term}
use Rattle.spec_sorts.specs.Subsets.{AreAmong, AreOnce}

-- none occurs twice
abbrev IsOnce : List Term → Type 0
IsOnce [] = Unit {0}
IsOnce (x ∷ xs) = (Contains xs x → ⊥) × IsOnce xs

once : (xs : List Term) → AreOnce xs → IsOnce xs
once [] apart = tt
once (x ∷ xs) apart = (
  λ h. apart zero (suc h.0) x (omega arith) (omega (arith, h.1)) (sym h.2),
  once xs (λ i j d lt within. apart (suc i) (suc j) d (omega (arith, lt)) (omega (arith, within))),
)

-- a list at one of its members
split : (xs : List Term) (x : Term) (k : ℕ) → k < length xs → get_or xs k x ≡ x → (front : List Term) × (back : List Term) × (xs ≡ front ++ x ∷ back)
split [] x k lt e = absurd (omega (arith, lt))
split (y ∷ ys) x zero lt e = ([], ys, ap (λ z. z ∷ ys) e)
split (y ∷ ys) x (suc k) lt e = let s = split ys x k (omega (arith, lt)) e in (y ∷ s.0, s.1, ap (λ zs. y ∷ zs) s.2)

-- without that member
without : (front back : List Term) (x : Term) → IsOnce (front ++ x ∷ back) → IsOnce (front ++ back) × (Contains (front ++ back) x → ⊥)
without [] back x once = (once.1, once.0)
without (y ∷ ys) back x once =
    let r = without ys back x once.1 in (
      (λ h. once.0 (elim (Contains-append_cases ys back y h) [ inl l ↦ Contains-append_left ys (x ∷ back) y l | inr l ↦ Contains-append_right ys (x ∷ back) y (later x back y l) ]), r.0),
      λ h. elim (cases y (ys ++ back) x h) [ inl e ↦ once.0 (subst (Contains (ys ++ x ∷ back)) (sym e) (Contains-append_right ys (x ∷ back) x (first x back))) | inr l ↦ r.1 l ],
    )

sums_same : (f : Term → ℕ) (xs ys : List Term) → IsOnce xs → IsOnce ys → AreAmong xs ys → AreAmong ys xs → sum_by f xs ≡ sum_by f ys
sums_same f [] [] xs_once ys_once there back = refl
sums_same f [] (y ∷ ys) xs_once ys_once there back = absurd (none y (back y (first y ys)))
sums_same f (x ∷ xs) ys xs_once ys_once there back =
    let here = there x (first x xs) in
    let s = split ys x here.0 here.1 here.2 in
    go s.0 s.1 s.2 (sums_same f xs (s.0 ++ s.1) xs_once.1)
  where
    go : (front rest : List Term) → ys ≡ front ++ x ∷ rest → (IsOnce (front ++ rest) → AreAmong xs (front ++ rest) → AreAmong (front ++ rest) xs → sum_by f xs ≡ sum_by f (front ++ rest)) → sum_by f (x ∷ xs) ≡ sum_by f ys
    go front rest e same =
        let out = without front rest x (subst IsOnce e ys_once) in
        let into : AreAmong xs (front ++ rest) = λ u u_in. elim (Contains-append_cases front (x ∷ rest) u (subst (λ zs. Contains zs u) e (there u (later x xs u u_in)))) [
          | inl l ↦ Contains-append_left front rest u l
          | inr r ↦ elim (cases x rest u r) [
            | inl is ↦ absurd (xs_once.0 (subst (Contains xs) (sym is) u_in))
            | inr l ↦ Contains-append_right front rest u l
          ]
        ] in
        let from : AreAmong (front ++ rest) xs = λ u u_in. elim (cases x xs u (back u (subst (λ zs. Contains zs u) (sym e) (elim (Contains-append_cases front rest u u_in) [ inl l ↦ Contains-append_left front (x ∷ rest) u l | inr l ↦ Contains-append_right front (x ∷ rest) u (later x rest u l) ])))) [
          | inl is ↦ absurd (out.1 (subst (Contains (front ++ rest)) (sym is) u_in))
          | inr l ↦ l
        ] in
        let parts : sum_by f ys ≡ sum_by f front + sum_by f (x ∷ rest) = ap (sum_by f) e ∙ sum_by-append f front (x ∷ rest) in
        omega (arith, parts, same out.0 into from, sum_by-append f front rest, sum_by-cons f x xs, sum_by-cons f x rest)

-- so they give as much
pub counts_same : {Y : Type 0} (f : Term → List Y) (xs ys : List Term) → AreOnce xs → AreOnce ys → AreAmong xs ys → AreAmong ys xs → length (flat_map f xs) ≡ length (flat_map f ys)
counts_same f xs ys xs_once ys_once there back = length-flat_map f xs ∙ sums_same (λ x. length (f x)) xs ys (once xs xs_once) (once ys ys_once) there back ∙ sym (length-flat_map f ys)
