-- In which lists the numbers of clauses are.
use Rattle.std.proofs.Common.{◌≡◌, ◌≢◌, ℕ, suc, ◌+◌, ◌*◌, ◌<◌, ◌≤◌, ◌==◌, Bool, true, false, if◌then◌else◌, List, [], ◌∷◌, ◌++◌, length, get_or, set, map, Contains, ◌⊎◌, inl, inr, refl, sym, ap, ◌∙◌, arith}
use Rattle.std.specs.List.{swap_remove}
use Rattle.std.proofs.lemmas.Bool.{cases_lt, cases_eq, eqb-true, eq-eqb}
use Rattle.std.proofs.lemmas.List.{length-map, length-set, get_or-map, get_or_past, map-set, map_push, get_or-set_same, get_or-set_other, get_or_push, get_or_append_left, length_push}
use Rattle.std.proofs.lemmas.List.Sums.{sum_by-cons, sum_by_push, sum_by-swap_remove, get_or-le-sum_by}
use Rattle.term_core.specs.declared.ids.Lit.{Lit}
use Rattle.watch_index.specs.Indexes.{code, one_if, list_of, IsAppended, IsMoved}
use Rattle.clause_store.specs.declared.pair.Pair.{Pair}
use Rattle.clause_store.specs.Stores.{tally, hits, hits_at, no_pair}
use Rattle.clause_store.specs.Watching.{IsIndexed, HaveSameLists, IsEnteredIfTwo}

-- ---- numbers in a list

pub is_one : (a b : ℕ) → a ≡ b → one_if (a == b) ≡ 1
is_one a b e = ap one_if (eq-eqb a b e)

pub is_none : (a b : ℕ) → a ≢ b → one_if (a == b) ≡ 0
is_none a b n = go (a == b) refl
  where
    go : (t : Bool) → (a == b) ≡ t → one_if t ≡ 0
    go true e = absurd (n (eqb-true a b e))
    go false e = refl

-- a number that is there counts
counts : (n : ℕ) (ks : List ℕ) → Contains ks n → 1 ≤ tally n ks
counts n ks (i, lt, e) = omega (arith, get_or-le-sum_by (λ m. one_if (m == n)) ks i n lt, is_one (get_or ks i n) n e)

-- and one that counts is there
counted_in : (n : ℕ) (ks : List ℕ) → 1 ≤ tally n ks → Contains ks n
counted_in n [] h = absurd (omega (arith, h))
counted_in n (m ∷ ks) h = elim (cases_eq m n) [
  | inl e ↦ (0, omega arith, e)
  | inr other ↦ later (counted_in n ks (omega (arith, h, sum_by-cons (λ m. one_if (m == n)) m ks, is_none m n other)))
]
  where
    later : Contains ks n → Contains (m ∷ ks) n
    later (i, lt, e) = (suc i, omega (arith, lt), e)

-- ---- literals and codes

-- two literals of one code are one
pub code_tells : (l m : Lit) → code l ≡ code m → l ≡ m
code_tells l m e = go l.positive m.positive refl refl
  where
    same : (a b : Bool) → l.positive ≡ a → m.positive ≡ b → a ≡ b → l.term.0 ≡ m.term.0 → l ≡ m
    same a b p q s t = λ i. record { term = record { 0 = t i }; positive = (p ∙ s ∙ sym q) i }

    go : (a b : Bool) → l.positive ≡ a → m.positive ≡ b → l ≡ m
    go true true p q = same true true p q refl (omega (arith, e, ap one_if p, ap one_if q))
    go false false p q = same false false p q refl (omega (arith, e, ap one_if p, ap one_if q))
    go true false p q = absurd (omega (arith, e, ap one_if p, ap one_if q))
    go false true p q = absurd (omega (arith, e, ap one_if p, ap one_if q))

-- the literals of a pair are one or two
pub one_or_two : (p : Pair) → (p.first ≡ p.second) ⊎ (p.first ≢ p.second)
one_or_two p = elim (cases_eq (code p.first) (code p.second)) [
  | inl e ↦ inl (code_tells p.first p.second e)
  | inr n ↦ inr (λ e. n (ap code e))
]

-- ---- hits

module _ (p : Pair) (k : ℕ) where
  hits_by : (t : Bool) → (code p.first == code p.second) ≡ t → hits p k ≡ if t then 0 else one_if (code p.first == k) + one_if (code p.second == k)
  hits_by t e = ap (λ (b : Bool). if b then 0 else one_if (code p.first == k) + one_if (code p.second == k)) e

  pub hits_two : p.first ≢ p.second → hits p k ≡ one_if (code p.first == k) + one_if (code p.second == k)
  hits_two d = go (code p.first == code p.second) refl
    where
      go : (t : Bool) → (code p.first == code p.second) ≡ t → hits p k ≡ one_if (code p.first == k) + one_if (code p.second == k)
      go true e = absurd (d (code_tells p.first p.second (eqb-true _ _ e)))
      go false e = hits_by false e

  pub hits_one : p.first ≡ p.second → hits p k ≡ 0
  hits_one e = hits_by true (eq-eqb _ _ (ap code e))

-- of a pair that is there
pub hits_there : (pairs : List Pair) (n k : ℕ) → n < length pairs → hits_at pairs n k ≡ hits (get_or pairs n no_pair) k
hits_there pairs n k lt = get_or-map (λ p. hits p k) pairs n no_pair 0 lt

pub hits_past : (pairs : List Pair) (n k : ℕ) → length pairs ≤ n → hits_at pairs n k ≡ 0
hits_past pairs n k le = get_or_past (map (λ p. hits p k) pairs) n 0 (omega (arith, le, length-map pairs (λ p. hits p k)))

-- the arithmetic of a step, at the list that loses, at that which gains, and at others
with_one : (x y t a b : ℕ) → t ≡ 1 → x + a ≡ y + b → x + t * a ≡ y + t * b
with_one x y t a b e h = rw e (omega (arith, h))

with_none : (x y t a b : ℕ) → t ≡ 0 → x ≡ y → x + t * a ≡ y + t * b
with_none x y t a b e h = rw e (omega (arith, h))

loses : (new old x y t a b : ℕ) → new + t ≡ old → old ≡ y → x + t * a ≡ y + t * b → a ≡ 1 → b ≡ 0 → new ≡ x
loses new old x y t a b p q r e f = sym (take_away x new t (omega (arith, p, q, rw (e, f) at r)))
  where
    take_away : (x new t : ℕ) → x + t ≡ new + t → x ≡ new
    take_away x new t h = omega (arith, h)

gains : (new old x y t a b : ℕ) → new ≡ old + t → old ≡ y → x + t * a ≡ y + t * b → a ≡ 0 → b ≡ 1 → new ≡ x
gains new old x y t a b p q r e f = omega (arith, p, q, rw (e, f) at r)

stays : (old x y t a b : ℕ) → old ≡ y → x + t * a ≡ y + t * b → a ≡ 0 → b ≡ 0 → old ≡ x
stays old x y t a b q r e f = omega (arith, q, rw (e, f) at r)

module _ (pairs : List Pair) (index : List (List ℕ)) (h : IsIndexed pairs index) where
  -- a number in a list is a clause's, with two literals, and one of them is the list's
  pub listed : (k n : ℕ) → Contains (get_or index k []) n → (n < length pairs) × ((get_or pairs n no_pair).first ≢ (get_or pairs n no_pair).second)
      × ((code (get_or pairs n no_pair).first ≡ k) ⊎ (code (get_or pairs n no_pair).second ≡ k))
  listed k n c = elim (cases_lt n (length pairs)) [
    | inl below ↦ (below, two below, which (cases_eq (code (get_or pairs n no_pair).first) k) (cases_eq (code (get_or pairs n no_pair).second) k) (omega (arith, hit below, hits_two (get_or pairs n no_pair) k (two below))))
    | inr past ↦ absurd (omega (arith, counts n (get_or index k []) c, h.counted k n, hits_past pairs n k past))
  ]
    where
      hit : n < length pairs → 1 ≤ hits (get_or pairs n no_pair) k
      hit below = omega (arith, counts n (get_or index k []) c, h.counted k n, hits_there pairs n k below)

      two : n < length pairs → (get_or pairs n no_pair).first ≢ (get_or pairs n no_pair).second
      two below e = absurd (omega (arith, hit below, hits_one (get_or pairs n no_pair) k e))

      which : (code (get_or pairs n no_pair).first ≡ k) ⊎ (code (get_or pairs n no_pair).first ≢ k) → (code (get_or pairs n no_pair).second ≡ k) ⊎ (code (get_or pairs n no_pair).second ≢ k)
          → 1 ≤ one_if (code (get_or pairs n no_pair).first == k) + one_if (code (get_or pairs n no_pair).second == k) → (code (get_or pairs n no_pair).first ≡ k) ⊎ (code (get_or pairs n no_pair).second ≡ k)
      which (inl e) b lt = inl e
      which (inr a) (inl e) lt = inr e
      which (inr a) (inr b) lt = absurd (omega (arith, lt, is_none _ _ a, is_none _ _ b))

  -- each of the two literals has the number in its list, once
  pub listed_once : (n k : ℕ) → n < length pairs → (get_or pairs n no_pair).first ≢ (get_or pairs n no_pair).second
      → (code (get_or pairs n no_pair).first ≡ k) ⊎ (code (get_or pairs n no_pair).second ≡ k) → tally n (get_or index k []) ≡ 1
  listed_once n k lt d w = omega (arith, h.counted k n, hits_there pairs n k lt, hits_two (get_or pairs n no_pair) k d, once w)
    where
      codes : code (get_or pairs n no_pair).first ≢ code (get_or pairs n no_pair).second
      codes e = d (code_tells _ _ e)

      once : (code (get_or pairs n no_pair).first ≡ k) ⊎ (code (get_or pairs n no_pair).second ≡ k) → one_if (code (get_or pairs n no_pair).first == k) + one_if (code (get_or pairs n no_pair).second == k) ≡ 1
      once (inl e) = omega (arith, is_one _ k e, is_none (code (get_or pairs n no_pair).second) k (λ f. codes (e ∙ sym f)))
      once (inr e) = omega (arith, is_one _ k e, is_none (code (get_or pairs n no_pair).first) k (λ f. codes (f ∙ sym e)))

  pub lists : (n k : ℕ) → n < length pairs → (get_or pairs n no_pair).first ≢ (get_or pairs n no_pair).second
      → (code (get_or pairs n no_pair).first ≡ k) ⊎ (code (get_or pairs n no_pair).second ≡ k) → Contains (get_or index k []) n
  lists n k lt d w = counted_in n (get_or index k []) (omega (arith, listed_once n k lt d w))

  -- the same lists serve
  pub indexed_same : (new : List (List ℕ)) → HaveSameLists index new → IsIndexed pairs new
  indexed_same new e = record { counted = λ k n. ap (tally n) (e k) ∙ h.counted k n }

  -- a clause gets another literal in the place of that of a list
  module _ (f d : Lit) (other n at : ℕ) (p : Pair) (new : List (List ℕ))
      (apart : code f ≢ code d) (at_in : at < length (list_of index f)) (number : get_or (list_of index f) at 0 ≡ n) (below : n < length pairs)
      (was : (k : ℕ) → hits (get_or pairs n no_pair) k ≡ one_if (code f == k) + one_if (other == k))
      (now : (k : ℕ) → hits p k ≡ one_if (other == k) + one_if (code d == k))
      (m : IsMoved index f at d new) where
    hits_now : (m k : ℕ) → (m ≡ n) ⊎ (m ≢ n) → hits_at (set pairs n p) m k + (one_if (n == m)) * (one_if (code f == k)) ≡ hits_at pairs m k + (one_if (n == m)) * (one_if (code d == k))
    hits_now m k (inl e) = rw e (with_one (hits_at (set pairs n p) n k) (hits_at pairs n k) (one_if (n == n)) (one_if (code f == k)) (one_if (code d == k)) (is_one n n refl) (omega (arith, there, hits_there pairs n k below, was k, now k)))
      where
        there : hits_at (set pairs n p) n k ≡ hits p k
        there = hits_there (set pairs n p) n k (omega (arith, below, length-set pairs n p)) ∙ ap (λ (q : Pair). hits q k) (get_or-set_same pairs n p no_pair below)
    hits_now m k (inr o) = with_none (hits_at (set pairs n p) m k) (hits_at pairs m k) (one_if (n == m)) (one_if (code f == k)) (one_if (code d == k)) (is_none n m (λ e. o (sym e))) same
      where
        same : hits_at (set pairs n p) m k ≡ hits_at pairs m k
        same = ap (λ xs. get_or xs m 0) (map-set (λ q. hits q k) pairs n p) ∙ get_or-set_other (map (λ q. hits q k) pairs) n m (hits p k) 0 o

    -- the list of the one lost the entry
    pub lost : list_of new f ≡ swap_remove (list_of index f) at 0
    lost = m.taken.list ∙ ap (λ xs. swap_remove xs at 0) (m.put.others (code f) apart)

    gained : list_of new d ≡ list_of index d ++ n ∷ []
    gained = m.taken.others (code d) (λ e. apart (sym e)) ∙ m.put.list ∙ ap (λ j. list_of index d ++ j ∷ []) number

    kept : (k : ℕ) → k ≢ code f → k ≢ code d → get_or new k [] ≡ get_or index k []
    kept k a b = m.taken.others k a ∙ m.put.others k b

    pub indexed_moved : IsIndexed (set pairs n p) new
    indexed_moved = record { counted = λ k j. go k j (cases_eq k (code f)) (cases_eq k (code d)) }
      where
        step : (k j : ℕ) → hits_at (set pairs n p) j k + one_if (n == j) * one_if (code f == k) ≡ hits_at pairs j k + one_if (n == j) * one_if (code d == k)
        step k j = hits_now j k (cases_eq j n)

        removed : (j : ℕ) → tally j (swap_remove (list_of index f) at 0) + one_if (n == j) ≡ tally j (list_of index f)
        removed j = ap (λ i. tally j (swap_remove (list_of index f) at 0) + one_if (i == j)) (sym number) ∙ sum_by-swap_remove (λ x. one_if (x == j)) (list_of index f) at 0 at_in

        go : (k j : ℕ) → (k ≡ code f) ⊎ (k ≢ code f) → (k ≡ code d) ⊎ (k ≢ code d) → tally j (get_or new k []) ≡ hits_at (set pairs n p) j k
        go k j (inl e) (inl g) = absurd (apart (sym e ∙ g))
        go k j (inl e) (inr g) = ap (λ i. tally j (get_or new i [])) e ∙ ap (tally j) lost
            ∙ loses _ _ (hits_at (set pairs n p) j k) (hits_at pairs j k) (one_if (n == j)) (one_if (code f == k)) (one_if (code d == k)) (removed j ∙ ap (λ i. tally j (get_or index i [])) (sym e)) (h.counted k j) (step k j) (is_one (code f) k (sym e)) (is_none (code d) k (λ x. g (sym x)))
        go k j (inr e) (inl g) = ap (λ i. tally j (get_or new i [])) g ∙ ap (tally j) gained
            ∙ gains _ _ (hits_at (set pairs n p) j k) (hits_at pairs j k) (one_if (n == j)) (one_if (code f == k)) (one_if (code d == k)) (sum_by_push (λ x. one_if (x == j)) (list_of index d) n ∙ ap (λ i. tally j (get_or index i []) + one_if (n == j)) (sym g)) (h.counted k j) (step k j) (is_none (code f) k (λ x. e (sym x))) (is_one (code d) k (sym g))
        go k j (inr e) (inr g) = ap (tally j) (kept k e g)
            ∙ stays _ (hits_at (set pairs n p) j k) (hits_at pairs j k) (one_if (n == j)) (one_if (code f == k)) (one_if (code d == k)) (h.counted k j) (step k j) (is_none (code f) k (λ x. e (sym x))) (is_none (code d) k (λ x. g (sym x)))

  -- a clause more
  module _ (p : Pair) (new : List (List ℕ)) (m : IsEnteredIfTwo index p (length pairs) new) where
    put_tally : (a b : List (List ℕ)) (i n : ℕ) → IsAppended a i n b → (k j : ℕ) → tally j (get_or b k []) ≡ tally j (get_or a k []) + one_if (i == k) * one_if (n == j)
    put_tally a b i n put k j = elim (cases_eq k i) [
      | inl e ↦ ap (λ x. tally j (get_or b x [])) e ∙ ap (tally j) put.list ∙ sum_by_push (λ x. one_if (x == j)) (get_or a i []) n
          ∙ adds_it (tally j (get_or a i [])) _ (one_if (i == k)) (one_if (n == j)) (ap (λ x. tally j (get_or a x [])) (sym e)) (is_one i k (sym e))
      | inr o ↦ ap (tally j) (put.others k o) ∙ adds_no (tally j (get_or a k [])) (one_if (i == k)) (one_if (n == j)) (is_none i k (λ x. o (sym x)))
    ]
      where
        adds_it : (x y t u : ℕ) → x ≡ y → t ≡ 1 → x + u ≡ y + t * u
        adds_it x y t u e f = rw f (omega (arith, e))

        adds_no : (x t u : ℕ) → t ≡ 0 → x ≡ x + t * u
        adds_no x t u f = rw f (omega arith)

    hits_push : (k j : ℕ) → hits_at (pairs ++ p ∷ []) j k ≡ hits_at pairs j k + one_if (length pairs == j) * hits p k
    hits_push k j = ap (λ xs. get_or xs j 0) (map_push (λ q. hits q k) pairs p) ∙ go (cases_lt j (length pairs)) (cases_eq (length pairs) j)
      where
        size : length (map (λ q. hits q k) pairs) ≡ length pairs
        size = length-map pairs (λ q. hits q k)

        none : (x t u : ℕ) → t ≡ 0 → x ≡ x + t * u
        none x t u f = rw f (omega arith)

        one : (x y t u : ℕ) → x ≡ u → y ≡ 0 → t ≡ 1 → x ≡ y + t * u
        one x y t u e f g = rw (f, g) (omega (arith, e))

        go : (j < length pairs) ⊎ (length pairs ≤ j) → (length pairs ≡ j) ⊎ (length pairs ≢ j) → get_or (map (λ q. hits q k) pairs ++ hits p k ∷ []) j 0 ≡ hits_at pairs j k + one_if (length pairs == j) * hits p k
        go (inl lt) w = get_or_append_left (map (λ q. hits q k) pairs) (hits p k ∷ []) 0 j (omega (arith, lt, size)) ∙ none (hits_at pairs j k) (one_if (length pairs == j)) (hits p k) (is_none (length pairs) j (λ e. absurd (omega (arith, lt, e))))
        go (inr le) (inl e) = one _ (hits_at pairs j k) (one_if (length pairs == j)) (hits p k) (get_or_push (map (λ q. hits q k) pairs) (hits p k) 0 j (size ∙ e)) (hits_past pairs j k le) (is_one (length pairs) j e)
        go (inr le) (inr o) = get_or_past (map (λ q. hits q k) pairs ++ hits p k ∷ []) j 0 (omega (arith, le, size, length_push (map (λ q. hits q k) pairs) (hits p k), differ)) ∙ sym (hits_past pairs j k le) ∙ none (hits_at pairs j k) (one_if (length pairs == j)) (hits p k) (is_none (length pairs) j o)
          where
            differ : length pairs + 1 ≤ j
            differ = elim (cases_lt (length pairs) j) [ inl lt ↦ omega (arith, lt) | inr ge ↦ absurd (o (omega (arith, ge, le))) ]

    pub indexed_more : IsIndexed (pairs ++ p ∷ []) new
    indexed_more = record { counted = λ k j. go k j (one_or_two p) }
      where
        both : (c s t : ℕ) (b : Bool) → c + s * one_if b + t * one_if b ≡ c + one_if b * (s + t)
        both c s t true = omega arith
        both c s t false = omega arith

        go : (k j : ℕ) → (p.first ≡ p.second) ⊎ (p.first ≢ p.second) → tally j (get_or new k []) ≡ hits_at (pairs ++ p ∷ []) j k
        go k j (inl e) = ap (tally j) (m.one e k) ∙ h.counted k j ∙ nothing (hits_at pairs j k) (one_if (length pairs == j)) (hits p k) (hits_one p k e) ∙ sym (hits_push k j)
          where
            nothing : (x t u : ℕ) → u ≡ 0 → x ≡ x + t * u
            nothing x t u f = rw f (omega arith)
        go k j (inr d) =
            let two = m.two d in
            put_tally two.middle new (code p.second) (length pairs) two.second k j
            ∙ ap (λ x. x + one_if (code p.second == k) * one_if (length pairs == j)) (put_tally index two.middle (code p.first) (length pairs) two.first k j ∙ ap (λ x. x + one_if (code p.first == k) * one_if (length pairs == j)) (h.counted k j))
            ∙ both (hits_at pairs j k) (one_if (code p.first == k)) (one_if (code p.second == k)) (length pairs == j)
            ∙ ap (λ x. hits_at pairs j k + one_if (length pairs == j) * x) (sym (hits_two p k d)) ∙ sym (hits_push k j)
