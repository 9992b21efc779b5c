-- Which numbers are in a list.
use Rattle.std.proofs.Common.{◌≡◌, ℕ, zero, suc, ◌+◌, ◌<◌, ◌⊎◌, inl, inr, List, [], ◌∷◌, ◌++◌, length, get_or, take, All, refl, sym, ◌∙◌, subst, arith}
use Rattle.std.proofs.lemmas.List.{take_more}
use Rattle.std.specs.Ordering.{nat_cmp, MatchOrdering, match_ordering}
use Rattle.std.specs.Cmp.{ranks}
use Rattle.std.specs.declared.cmp.Ordering.{Ordering}
use Rattle.std.specs.declared.cmp.Ordering.TheVariants.{Less, Equal, Greater}
use Rattle.std.specs.BTreeSet.{insert_key}
use Rattle.term_walks.specs.Orders.{In, AddsNumbers, Ascends}

pub in_first : (q : ℕ) (xs ys : List ℕ) → In q xs → In q (xs ++ ys)
in_first q [] ys h = absurd h
in_first q (x ∷ xs) ys (inl e) = inl e
in_first q (x ∷ xs) ys (inr h) = inr (in_first q xs ys h)

pub in_second : (q : ℕ) (xs ys : List ℕ) → In q ys → In q (xs ++ ys)
in_second q [] ys h = h
in_second q (x ∷ xs) ys h = inr (in_second q xs ys h)

pub in_either : (q : ℕ) (xs ys : List ℕ) → In q (xs ++ ys) → In q xs ⊎ In q ys
in_either q [] ys h = inr h
in_either q (x ∷ xs) ys (inl e) = inl (inl e)
in_either q (x ∷ xs) ys (inr h) = elim (in_either q xs ys h) [ inl a ↦ inl (inr a) | inr b ↦ inr b ]

pub in_place : (q : ℕ) (xs : List ℕ) → In q xs → (k : ℕ) × (k < length xs) × (get_or xs k 0 ≡ q)
in_place q [] h = absurd h
in_place q (x ∷ xs) (inl e) = (0, omega arith, sym e)
in_place q (x ∷ xs) (inr h) = let p = in_place q xs h in (suc p.0, omega (arith, p.1), p.2)

pub at_in : (xs : List ℕ) (k : ℕ) → k < length xs → In (get_or xs k 0) xs
at_in [] k lt = absurd (omega (arith, lt))
at_in (x ∷ xs) zero lt = inl refl
at_in (x ∷ xs) (suc k) lt = inr (at_in xs k (omega (arith, lt)))

pub all_in : (P : ℕ → Type 0) (q : ℕ) (xs : List ℕ) → All P xs → In q xs → P q
all_in P q xs h i = let p = in_place q xs i in subst P p.2 (h p.0 0 p.1)

pub in_all : (P : ℕ → Type 0) (xs : List ℕ) → ((q : ℕ) → In q xs → P q) → All P xs
in_all P [] h k d lt = absurd (omega (arith, lt))
in_all P (x ∷ xs) h zero d lt = h x (inl refl)
in_all P (x ∷ xs) h (suc k) d lt = in_all P xs (λ q i. h q (inr i)) k d (omega (arith, lt))

-- a number put at its place among those that ascend
match_in : (q k x : ℕ) (xs rest : List ℕ) (o : Ordering) → MatchOrdering o (k < x) (k ≡ x) (x < k)
    → (In q (k ∷ xs) → In q rest) → (In q rest → In q xs ⊎ (q ≡ k))
    → (In q (k ∷ x ∷ xs) → In q (match_ordering o (k ∷ x ∷ xs) (x ∷ xs) (x ∷ rest))) × (In q (match_ordering o (k ∷ x ∷ xs) (x ∷ xs) (x ∷ rest)) → In q (x ∷ xs) ⊎ (q ≡ k))
match_in q k x xs rest Less m f b = (λ h. h, λ h. elim h [ inl e ↦ inr e | inr r ↦ inl r ])
match_in q k x xs rest Equal m f b = (λ h. elim h [ inl e ↦ inl (e ∙ m) | inr r ↦ r ], λ h. inl h)
match_in q k x xs rest Greater m f b = (λ h. elim h [ inl e ↦ inr (f (inl e)) | inr r ↦ elim r [ inl e ↦ inl e | inr s ↦ inr (f (inr s)) ] ], λ h. elim h [ inl e ↦ inl (inl e) | inr r ↦ elim (b r) [ inl s ↦ inl (inr s) | inr e ↦ inr e ] ])

put_in : (q k : ℕ) (xs : List ℕ) → (In q (k ∷ xs) → In q (insert_key nat_cmp xs k)) × (In q (insert_key nat_cmp xs k) → In q xs ⊎ (q ≡ k))
put_in q k [] = (λ h. h, λ h. elim h [ inl e ↦ inr e | inr r ↦ absurd r ])
put_in q k (x ∷ xs) = let p = put_in q k xs in match_in q k x xs (insert_key nat_cmp xs k) (nat_cmp k x) (ranks k x) p.0 p.1

pub adds_none : (old : List ℕ) → AddsNumbers old [] old
adds_none old = record { kept = λ q h. h; there = λ q h. absurd h; no_others = λ q h. inl h }

pub adds_more : (old mid new ids : List ℕ) (at k d : ℕ) → at < length ids → k ≡ get_or ids at d → new ≡ insert_key nat_cmp mid k → AddsNumbers old (take at ids) mid → AddsNumbers old (take (at + 1) ids) new
adds_more old mid new ids at k d lt is keys h = subst (λ l. AddsNumbers old l new) (sym (take_more ids at d lt)) (record {
  kept = λ q a. subst (In q) (sym keys) ((put_in q k mid).0 (inr (h.kept q a)));
  there = λ q a. elim (in_either q (take at ids) (get_or ids at d ∷ []) a) [
    | inl b ↦ subst (In q) (sym keys) ((put_in q k mid).0 (inr (h.there q b)))
    | inr b ↦ elim b [ inl e ↦ subst (In q) (sym keys) ((put_in q k mid).0 (inl (e ∙ sym is))) | inr r ↦ absurd r ]
  ];
  no_others = λ q a. elim ((put_in q k mid).1 (subst (In q) keys a)) [
    | inl b ↦ elim (h.no_others q b) [ inl c ↦ inl c | inr c ↦ inr (in_first q (take at ids) (get_or ids at d ∷ []) c) ]
    | inr e ↦ inr (in_second q (take at ids) (get_or ids at d ∷ []) (inl (e ∙ is)))
  ];
})

-- places of numbers that ascend
pub rises : (xs : List ℕ) → Ascends xs → (i j : ℕ) → i < j → j < length xs → get_or xs i 0 < get_or xs j 0
rises [] a i j lt in_list = absurd (omega (arith, in_list))
rises (x ∷ xs) a zero zero lt in_list = absurd (omega (arith, lt))
rises (x ∷ xs) a zero (suc j) lt in_list = a.0 (get_or xs j 0) (at_in xs j (omega (arith, in_list)))
rises (x ∷ xs) a (suc i) zero lt in_list = absurd (omega (arith, lt))
rises (x ∷ xs) a (suc i) (suc j) lt in_list = rises xs a.1 i j (omega (arith, lt)) (omega (arith, in_list))
