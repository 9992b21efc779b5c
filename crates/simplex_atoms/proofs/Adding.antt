-- What the table of sums finds, and a sum more.
use Rattle.std.proofs.Common.{◌≡◌, ℕ, Bool, true, false, ◌&&◌, List, [], ◌∷◌, cond, Option, Some, None, nat_eq, inl, inr, ◌⊎◌, refl, sym, ◌∙◌, ap, subst, true≢false}
use Rattle.std.specs.Prelude.{MatchOption, Contains, IsPermutation, Vec}
use Rattle.std.specs.declared.alloc.Global.{Global}
use Rattle.std.specs.Bool.{Decides}
use Rattle.std.specs.Cmp.Lexicographic.{pointwise}
use Rattle.std.specs.Map.{lookup, set_value}
use Rattle.std.proofs.lemmas.Bool.Decides.{Decides-like, Decides-and, Decides-eqb, Decides-int_eq}
use Rattle.std.proofs.lemmas.List.Sorted.{IsPermutation-map}
use Rattle.std.proofs.lemmas.Option.{none-some, same_Some}
use Rattle.spec_text.proofs.Members as members
use Rattle.spec_tableaux.specs.Rows.{Entry}
use Rattle.spec_tableaux.specs.Numbers.{Number}
use Rattle.spec_tableaux.proofs.Numbers.{number_is}
use Rattle.ratio128.specs.declared.ratio.Ratio.{Ratio}
use Rattle.ratio128.specs.contracts.ratio.RatioPartialEq.TheImpl.{ghosts}
use Rattle.tableau.specs.Numbers.{number_of}
use Rattle.simplex_atoms.specs.declared.sums.Multiple.{Multiple}
use Rattle.simplex_atoms.specs.Sums.{pair_meant, pairs_meant, Sum, sum_by, sum_meant, sums_meant, IsNew}

-- pairs are equal exactly where they mean one entry

abbrev equal_pairs : ℕ × Ratio → ℕ × Ratio → Bool
equal_pairs p q = nat_eq p.0 q.0 && ghosts.eq p.1 q.1

same_fraction : (a b : Ratio) → Decides (ghosts.eq a b) (number_of a ≡ number_of b)
same_fraction a b =
    Decides-like _ (λ e. number_is (number_of a) (number_of b) (λ i. record { num = e.0 i; den = e.1 i })) (λ e. (ap (λ (n : Number). n.fraction.num) e, ap (λ (n : Number). n.fraction.den) e))
    (Decides-and _ _ (Decides-int_eq a.num b.num) (Decides-eqb a.den b.den))

same_pair : (p q : ℕ × Ratio) → Decides (equal_pairs p q) (pair_meant p ≡ pair_meant q)
same_pair p q =
    Decides-like _ (λ e i. record { variable = e.0 i; coefficient = e.1 i }) (λ e. (ap (λ (x : Entry Number). x.variable) e, ap (λ (x : Entry Number). x.coefficient) e))
    (Decides-and _ _ (Decides-eqb p.0 q.0) (same_fraction p.1 q.1))

same_pairs : (ps qs : List (ℕ × Ratio)) → Decides (pointwise equal_pairs ps qs) (pairs_meant ps ≡ pairs_meant qs)
same_pairs [] [] = (λ e. refl, λ e. refl)
same_pairs [] (q ∷ qs) = (λ e. absurd (true≢false (sym e)), λ e. cc)
same_pairs (p ∷ ps) [] = (λ e. absurd (true≢false (sym e)), λ e. cc)
same_pairs (p ∷ ps) (q ∷ qs) =
    Decides-like _ (λ e i. e.0 i ∷ e.1 i) (λ e. (cc, cc)) (Decides-and _ _ (same_pair p q) (same_pairs ps qs))

-- the table, by its entries

abbrev Kept : Type 0
Kept = List (Vec (ℕ × Ratio) Global × Multiple)

abbrev has_key : Vec (ℕ × Ratio) Global → Vec (ℕ × Ratio) Global → Bool
has_key k v = pointwise equal_pairs k.items v.items

-- what is found is kept
pub found : (k : Vec (ℕ × Ratio) Global) (kept : Kept) (m : Multiple) → lookup (has_key k) kept ≡ Some m → Contains (sums_meant kept) (sum_by (pairs_meant k.items) m)
found k [] m e = absurd (none-some m e)
found k (x ∷ kept) m e = by (has_key k x.0) refl (found k kept m)
  where
    by : (b : Bool) → has_key k x.0 ≡ b → (lookup (has_key k) kept ≡ Some m → Contains (sums_meant kept) (sum_by (pairs_meant k.items) m)) → Contains (sums_meant (x ∷ kept)) (sum_by (pairs_meant k.items) m)
    by true h rest =
        let here : x.1 ≡ m = same_Some x.1 m (sym (ap (λ b. cond b (Some x.1) (lookup (has_key k) kept)) h) ∙ e) in
        let keys : pairs_meant x.0.items ≡ pairs_meant k.items = sym ((same_pairs k.items x.0.items).0 h) in
        subst (Contains (sums_meant (x ∷ kept))) (λ i. sum_by (keys i) (here i)) (members.first (sum_meant x) (sums_meant kept))
    by false h rest =
        members.later (sum_meant x) (sums_meant kept) (sum_by (pairs_meant k.items) m) (rest (sym (ap (λ b. cond b (Some x.1) (lookup (has_key k) kept)) h) ∙ e))

-- where nothing is found, nothing is kept
pub none_found : (k : Vec (ℕ × Ratio) Global) (kept : Kept) → lookup (has_key k) kept ≡ None → IsNew (sums_meant kept) (pairs_meant k.items)
none_found k [] e m c = members.none (sum_by (pairs_meant k.items) m) c
none_found k (x ∷ kept) e m c = by (has_key k x.0) refl (λ h. none_found k kept h m) (members.cases (sum_meant x) (sums_meant kept) (sum_by (pairs_meant k.items) m) c)
  where
    by : (b : Bool) → has_key k x.0 ≡ b → (lookup (has_key k) kept ≡ None → Contains (sums_meant kept) (sum_by (pairs_meant k.items) m) → ⊥)
        → (sum_meant x ≡ sum_by (pairs_meant k.items) m) ⊎ Contains (sums_meant kept) (sum_by (pairs_meant k.items) m) → ⊥
    by true h rest d = none-some x.1 (sym e ∙ ap (λ b. cond b (Some x.1) (lookup (has_key k) kept)) h)
    by false h rest (inl this) = true≢false (sym ((same_pairs k.items x.0.items).1 (ap (λ (s : Sum). s.entries) (sym this))) ∙ h)
    by false h rest (inr later) = rest (sym (ap (λ b. cond b (Some x.1) (lookup (has_key k) kept)) h) ∙ e) later

-- a sum more
pub kept_more : (k : Vec (ℕ × Ratio) Global) (m : Multiple) (old new : Kept) (had : Option Multiple) → had ≡ lookup (has_key k) old → MatchOption had (IsPermutation ((k, m) ∷ old) new) (λ _. new ≡ set_value (has_key k) old m)
    → IsNew (sums_meant old) (pairs_meant k.items) → IsPermutation (sum_by (pairs_meant k.items) m ∷ sums_meant old) (sums_meant new)
kept_more k m old new None e put free = IsPermutation-map sum_meant ((k, m) ∷ old) new put
kept_more k m old new (Some had) e put free = absurd (free had (found k old had (sym e)))
