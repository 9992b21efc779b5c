-- Numbers of edges in a set, and its last.
use Rattle.std.proofs.Common.{◌≡◌, ℕ, suc, ◌<◌, ◌≤◌, ◌⊎◌, inl, inr, List, [], ◌∷◌, ◌++◌, refl, sym, ◌∙◌, subst, arith}
use Rattle.std.specs.Prelude.{All, Contains}
use Rattle.std.specs.Ordering.{nat_cmp, MatchOrdering, match_ordering}
use Rattle.std.specs.Cmp.{ranks}
use Rattle.std.specs.declared.cmp.Ordering.{Ordering}
use Rattle.std.specs.declared.cmp.Ordering.TheVariants.{Less, Equal, Greater}
use Rattle.std.specs.BTreeMap.Range.{IsLtBy}
use Rattle.std.specs.BTreeSet.{insert_key}
use Rattle.std.proofs.lemmas.List.Elements.{All-head, All-tail, All-contains, All-contains_itself, Contains-append_left, Contains-push, Contains-push_cases}
use Rattle.std.proofs.lemmas.Map.Views.{All-insert_key}
use Rattle.spec_text.proofs.Members.{none, first, later, cases}
use Rattle.congruence_explain.specs.Steps.{AddsEdges}

-- a number that is put is there, and so are those that were
put_there : (q k : ℕ) (xs : List ℕ) → Contains (k ∷ xs) q → Contains (insert_key nat_cmp xs k) q
put_there q k [] h = h
put_there q k (x ∷ xs) h = by (nat_cmp k x) (ranks k x) (put_there q k xs)
  where
    by : (o : Ordering) → MatchOrdering o (k < x) (k ≡ x) (x < k) → (Contains (k ∷ xs) q → Contains (insert_key nat_cmp xs k) q) → Contains (match_ordering o (k ∷ x ∷ xs) (x ∷ xs) (x ∷ insert_key nat_cmp xs k)) q
    by Less m f = h
    by Equal m f = elim (cases k (x ∷ xs) q h) [ inl e ↦ subst (Contains (x ∷ xs)) (sym m ∙ e) (first x xs) | inr r ↦ r ]
    by Greater m f = elim (cases k (x ∷ xs) q h) [
      | inl e ↦ later x (insert_key nat_cmp xs k) q (f (subst (Contains (k ∷ xs)) e (first k xs)))
      | inr r ↦ elim (cases x xs q r) [
        | inl e ↦ subst (Contains (x ∷ insert_key nat_cmp xs k)) e (first x (insert_key nat_cmp xs k))
        | inr s ↦ later x (insert_key nat_cmp xs k) q (f (later k xs q s))
      ]
    ]

-- no edges come, and one edge more
pub adds_none : (old : List ℕ) → AddsEdges old [] old
adds_none old = record { kept = λ q h. h; there = λ q h. absurd (none q h); no_others = λ q h. inl h }

pub adds_more : (old mid new ks : List ℕ) (k : ℕ) → new ≡ insert_key nat_cmp mid k → AddsEdges old ks mid → AddsEdges old (ks ++ k ∷ []) new
adds_more old mid new ks k is adds = record {
  kept = λ q h. stays q (adds.kept q h);
  there = λ q h. elim (Contains-push_cases ks k q h) [
    | inl b ↦ stays q (adds.there q b)
    | inr e ↦ subst (λ l. Contains l q) (sym is) (put_there q k mid (subst (Contains (k ∷ mid)) e (first k mid)))
  ];
  no_others = λ q h. All-contains (λ j. Contains old j ⊎ Contains (ks ++ k ∷ []) j) new q
      (subst (All (λ j. Contains old j ⊎ Contains (ks ++ k ∷ []) j)) (sym is) (All-insert_key nat_cmp k (λ j. Contains old j ⊎ Contains (ks ++ k ∷ []) j) mid among (inr (Contains-push ks k)))) h;
}
  where
    stays : (q : ℕ) → Contains mid q → Contains new q
    stays q h = subst (λ l. Contains l q) (sym is) (put_there q k mid (later k mid q h))

    at : (j : ℕ) → Contains mid j → Contains old j ⊎ Contains (ks ++ k ∷ []) j
    at j h = elim (adds.no_others j h) [ inl a ↦ inl a | inr b ↦ inr (Contains-append_left ks (k ∷ []) j b) ]

    among : All (λ j. Contains old j ⊎ Contains (ks ++ k ∷ []) j) mid
    among = λ i d lt. at _ (All-contains_itself mid i d lt)

-- those below the last one
pub below_last : (k : ℕ) (ks : List ℕ) → All (λ q. IsLtBy nat_cmp q k) ks → All (λ q. q < k) ks
below_last k ks h = λ i d lt. less_by _ (h i d lt)
  where
    less_by : (q : ℕ) → IsLtBy nat_cmp q k → q < k
    less_by q h = subst (λ o. MatchOrdering o (q < k) (q ≡ k) (k < q)) h (ranks q k)

-- the number after the last one, which bounds them all in a set
abbrev pub bound : List ℕ → ℕ
bound [] = 0
bound (k ∷ []) = suc k
bound (k ∷ l ∷ ks) = bound (l ∷ ks)

pub bound-push : (ks : List ℕ) (k : ℕ) → bound (ks ++ k ∷ []) ≡ suc k
bound-push [] k = refl
bound-push (j ∷ []) k = refl
bound-push (j ∷ l ∷ ks) k = bound-push (l ∷ ks) k

pub bound-low : (ks : List ℕ) (m : ℕ) → All (λ q. q < m) ks → bound ks ≤ m
bound-low [] m h = omega arith
bound-low (k ∷ []) m h = let lt : k < m = All-head (λ q. q < m) k [] h in omega (arith, lt)
bound-low (k ∷ l ∷ ks) m h = bound-low (l ∷ ks) m (All-tail (λ q. q < m) k (l ∷ ks) h)
