-- Names that hide each other.
use Rattle.std.proofs.Common.{◌≡◌, ℕ, zero, suc, ◌+◌, ◌<◌, All, ◌==◌, ◌⊎◌, inl, inr, Bool, true, false, cond, ◌||◌, List, [], ◌∷◌, ◌++◌, length, take, get_or, set, Some, None, refl, sym, ap, ◌∙◌, subst, arith}
use Rattle.std.proofs.lemmas.Bool.{false≢true, cases_lt}
use Rattle.std.proofs.lemmas.List.{get_or-map, get_or_append_left, get_or-set_same, get_or-set_other, length-append, length-map, length-set, map-append, take-append-le, take-map, take_at}
use Rattle.std.proofs.lemmas.List.Elements.{All-head, All-tail, All-push, All-weaker}
use Rattle.std.proofs.Math.Seq.{get_or-append_seam}
use Rattle.std.proofs.lemmas.Bool.Decides.{eqb_tells}
use Rattle.std.specs.Str.{bytes_eq}
use Rattle.spec_text.specs.Bytes.{Name, among}
use Rattle.spec_sorts.specs.Theory.{look_up}
use Rattle.term_core.specs.NameLists.{HaveNoTwice}
use Rattle.term_core.proofs.NamesApart.{bytes_same, same_bytes, not_there}
use Rattle.term_reader.specs.declared.name_stack.NameEntry.{NameEntry}
use Rattle.term_reader.specs.NameStacks.{no_place, names_at, numbers_in, place_after, latest_of, IsStack, IsLatest, MeetsName, newest}

-- the latest place with one place more
pub latest_push : (n m : ℕ) (ms : List ℕ) → latest_of n (ms ++ m ∷ []) ≡ cond (m == n) (suc (length ms)) (latest_of n ms)
latest_push n m [] = go (m == n)
  where
    go : (b : Bool) → place_after 0 b ≡ cond b 1 0
    go true = refl
    go false = refl
latest_push n m (k ∷ ms) = ap (λ p. place_after p (k == n)) (latest_push n m ms) ∙ go (m == n)
  where
    go : (b : Bool) → place_after (cond b (suc (length ms)) (latest_of n ms)) (k == n) ≡ cond b (suc (suc (length ms))) (place_after (latest_of n ms) (k == n))
    go true = refl
    go false = refl

-- two numbers are one, or they differ
tells : (m n : ℕ) → ((m == n) ≡ true) × (m ≡ n) ⊎ ((m == n) ≡ false) × (m ≡ n → ⊥)
tells m n = eqb_tells m n

pub latest_same : (n m : ℕ) (ms : List ℕ) → m ≡ n → latest_of n (ms ++ m ∷ []) ≡ suc (length ms)
latest_same n m ms e = elim (tells m n) [ inl h ↦ latest_push n m ms ∙ ap (λ b. cond b (suc (length ms)) (latest_of n ms)) h.0 | inr h ↦ absurd (h.1 e) ]

pub latest_other : (n m : ℕ) (ms : List ℕ) → (m ≡ n → ⊥) → latest_of n (ms ++ m ∷ []) ≡ latest_of n ms
latest_other n m ms d = elim (tells m n) [ inl h ↦ absurd (d h.1) | inr h ↦ latest_push n m ms ∙ ap (λ b. cond b (suc (length ms)) (latest_of n ms)) h.0 ]

-- a number without a latest place has no place
pub latest_none : (n : ℕ) (ms : List ℕ) → latest_of n ms ≡ 0 → (j : ℕ) → j < length ms → get_or ms j 0 ≡ n → ⊥
latest_none n [] e j lt same = absurd (omega (arith, lt))
latest_none n (m ∷ ms) e j lt same = go (latest_of n ms) refl e (latest_none n ms)
  where
    here : (j : ℕ) → j < suc (length ms) → get_or (m ∷ ms) j 0 ≡ n → (m ≡ n → ⊥) → ((i : ℕ) → i < length ms → get_or ms i 0 ≡ n → ⊥) → ⊥
    here zero lt same d rec = d same
    here (suc j) lt same d rec = rec j (omega (arith, lt)) same

    go : (p : ℕ) → latest_of n ms ≡ p → place_after p (m == n) ≡ 0 → (latest_of n ms ≡ 0 → (i : ℕ) → i < length ms → get_or ms i 0 ≡ n → ⊥) → ⊥
    go (suc p) is e rec = absurd (omega (arith, e))
    go zero is e rec = elim (tells m n) [
      | inl h ↦ (let one : place_after 0 true ≡ 0 = ap (place_after 0) (sym h.0) ∙ e in absurd (omega (arith, one)))
      | inr h ↦ here j lt same h.1 (rec is)
    ]

-- The latest place of a number.
pub record IsLatestNumber (ms : List ℕ) (n k : ℕ) : Type 0 where
  -- it is one of the places
  pub inside : k < length ms
  -- it is the number's
  pub same : get_or ms k 0 ≡ n
  -- no later one is
  pub later : (j : ℕ) → k < j → j < length ms → get_or ms j 0 ≡ n → ⊥

pub latest_some : (n : ℕ) (ms : List ℕ) (k : ℕ) → latest_of n ms ≡ suc k → IsLatestNumber ms n k
latest_some n [] k e = absurd (omega (arith, e))
latest_some n (m ∷ ms) k e = go (latest_of n ms) refl e (latest_some n ms)
  where
    go : (p : ℕ) → latest_of n ms ≡ p → place_after p (m == n) ≡ suc k → ((i : ℕ) → latest_of n ms ≡ suc i → IsLatestNumber ms n i) → IsLatestNumber (m ∷ ms) n k
    go (suc p) is e rec =
        let r = rec p is in
        let k_is : k ≡ suc p = omega (arith, e) in
        subst (IsLatestNumber (m ∷ ms) n) (sym k_is) (record { inside = omega (arith, r.inside); same = r.same; later = after r })
      where
        after : IsLatestNumber ms n p → (j : ℕ) → suc p < j → j < length (m ∷ ms) → get_or (m ∷ ms) j 0 ≡ n → ⊥
        after r zero lt le same = absurd (omega (arith, lt))
        after r (suc j) lt le same = r.later j (omega (arith, lt)) (omega (arith, le)) same
    go zero is e rec = elim (tells m n) [
      | inl h ↦
          (let first : suc k ≡ 1 = sym e ∙ ap (place_after 0) h.0 in
          let k_is : k ≡ 0 = omega (arith, first) in
          subst (IsLatestNumber (m ∷ ms) n) (sym k_is) (record { inside = omega arith; same = h.1; later = after }))
      | inr h ↦ (let none : 0 ≡ suc k = ap (place_after 0) (sym h.0) ∙ e in absurd (omega (arith, none)))
    ]
      where
        after : (j : ℕ) → 0 < j → j < length (m ∷ ms) → get_or (m ∷ ms) j 0 ≡ n → ⊥
        after zero lt le same = absurd (omega (arith, lt))
        after (suc j) lt le same = latest_none n ms is j (omega (arith, le)) same

-- what is found among some is found among more, and else among the others
pub look_before : {A : Type 0} (xs ys : List (Name × A)) (n : Name) (a : A) → look_up xs n ≡ Some a → look_up (xs ++ ys) n ≡ Some a
look_before [] ys n a e = cc
look_before (x ∷ xs) ys n a e = go (bytes_eq x.0 n) e (look_before xs ys n a)
  where
    go : (b : Bool) → cond b (Some x.1) (look_up xs n) ≡ Some a → (look_up xs n ≡ Some a → look_up (xs ++ ys) n ≡ Some a) → cond b (Some x.1) (look_up (xs ++ ys) n) ≡ Some a
    go true e rec = e
    go false e rec = rec e

pub look_after : {A : Type 0} (xs ys : List (Name × A)) (n : Name) → look_up xs n ≡ None → look_up (xs ++ ys) n ≡ look_up ys n
look_after [] ys n e = refl
look_after (x ∷ xs) ys n e = go (bytes_eq x.0 n) e (look_after xs ys n)
  where
    go : (b : Bool) → cond b (Some x.1) (look_up xs n) ≡ None → (look_up xs n ≡ None → look_up (xs ++ ys) n ≡ look_up ys n) → cond b (Some x.1) (look_up (xs ++ ys) n) ≡ look_up ys n
    go true e rec = cc
    go false e rec = rec e

-- a name that is none of these stands for nothing
pub newest_none : {A : Type 0} (ns : List Name) (xs : List A) (n : Name) → among ns n ≡ false → look_up (newest ns xs) n ≡ None
newest_none [] xs n e = refl
newest_none (m ∷ ns) [] n e = refl
newest_none (m ∷ ns) (a ∷ xs) n e = go (bytes_eq m n) refl e (newest_none ns xs n)
  where
    go : (b : Bool) → bytes_eq m n ≡ b → (b || among ns n) ≡ false → (among ns n ≡ false → look_up (newest ns xs) n ≡ None) → look_up (newest ns xs ++ (m, a) ∷ []) n ≡ None
    go true q e rec = absurd (false≢true (sym e))
    go false q e rec = look_after (newest ns xs) ((m, a) ∷ []) n (rec e) ∙ ap (λ b. cond b (Some a) None) q

-- names of which none is the name
pub none_among : (ns : List Name) (n : Name) → ((j : ℕ) → j < length ns → get_or ns j [] ≡ n → ⊥) → among ns n ≡ false
none_among [] n h = refl
none_among (m ∷ ns) n h = go (bytes_eq m n) refl (none_among ns n (λ j lt. h (suc j) (omega (arith, lt))))
  where
    go : (b : Bool) → bytes_eq m n ≡ b → among ns n ≡ false → (b || among ns n) ≡ false
    go true q rec = absurd (h 0 (omega arith) (same_bytes m n q))
    go false q rec = rec

-- a name stands for what its latest place has
pub newest_found : {A : Type 0} (d : A) (ns : List Name) (xs : List A) (n : Name) (k : ℕ) → length ns ≡ length xs → IsLatest ns n k → look_up (newest ns xs) n ≡ Some (get_or xs k d)
newest_found d [] xs n k l h = absurd (omega (arith, h.inside))
newest_found d (m ∷ ns) [] n k l h = absurd (omega (arith, l))
newest_found d (m ∷ ns) (a ∷ xs) n zero l h =
    look_after (newest ns xs) ((m, a) ∷ []) n (newest_none ns xs n (none_among ns n (λ j lt. h.later (suc j) (omega arith) (omega (arith, lt)))))
    ∙ ap (λ b. cond b (Some a) None) (bytes_same m n h.same)
newest_found d (m ∷ ns) (a ∷ xs) n (suc k) l h =
    look_before (newest ns xs) ((m, a) ∷ []) n (get_or xs k d)
    (newest_found d ns xs n k (omega (arith, l)) (record { inside = omega (arith, h.inside); same = h.same; later = λ j lt le. h.later (suc j) (omega (arith, lt)) (omega (arith, le)) }))

-- a name more is the newest
pub newest_push : {A : Type 0} (ns : List Name) (xs : List A) (n : Name) (x : A) → length ns ≡ length xs → newest (ns ++ n ∷ []) (xs ++ x ∷ []) ≡ (n, x) ∷ newest ns xs
newest_push [] [] n x l = refl
newest_push [] (y ∷ xs) n x l = absurd (omega (arith, l))
newest_push (m ∷ ns) [] n x l = absurd (omega (arith, l))
newest_push (m ∷ ns) (y ∷ xs) n x l = ap (λ es. es ++ (m, y) ∷ []) (newest_push ns xs n x (omega (arith, l)))

-- what is written at places
module _ (met : List Name) (places : List NameEntry) where
  name_of : (k : ℕ) → k < length places → get_or (names_at met places) k [] ≡ get_or met (get_or (numbers_in places) k 0) []
  name_of k lt = get_or-map (λ (p : NameEntry). get_or met p.number []) places k no_place [] lt ∙ ap (λ n. get_or met n []) (sym (get_or-map (λ (p : NameEntry). p.number) places k no_place 0 lt))

  names_long : length (names_at met places) ≡ length places
  names_long = length-map places (λ (p : NameEntry). get_or met p.number [])

  numbers_long : length (numbers_in places) ≡ length places
  numbers_long = length-map places (λ (p : NameEntry). p.number)

module _ (met : List Name) (latest : List ℕ) (places : List NameEntry) (h : IsStack met latest places) where
  number_there : (k : ℕ) → k < length places → get_or (numbers_in places) k 0 < length met
  number_there k lt = subst (λ n. n < length met) (sym (get_or-map (λ (p : NameEntry). p.number) places k no_place 0 lt)) (h.there k no_place lt)

  -- a name that was not met has no place
  pub not_met : (n : Name) → among met n ≡ false → among (names_at met places) n ≡ false
  not_met n e = none_among (names_at met places) n (λ j lt same.
      let within : j < length places = omega (arith, lt, names_long met places) in
      not_there met n (get_or (numbers_in places) j 0) e (number_there j within) (sym (name_of met places j within) ∙ same))

  module _ (apart : HaveNoTwice met) (n : Name) (number : ℕ) (inside : number < length met) (is : get_or met number [] ≡ n) where
    same_number : (j : ℕ) → j < length places → get_or (names_at met places) j [] ≡ n → get_or (numbers_in places) j 0 ≡ number
    same_number j lt same = apart (get_or (numbers_in places) j 0) number (number_there j lt) inside (sym (name_of met places j lt) ∙ same ∙ sym is)

    -- a name without a latest place has none
    pub not_placed : get_or latest number 0 ≡ 0 → among (names_at met places) n ≡ false
    not_placed e = none_among (names_at met places) n (λ j lt same.
        let within : j < length places = omega (arith, lt, names_long met places) in
        latest_none number (numbers_in places) (sym (h.each number inside) ∙ e) j (omega (arith, within, numbers_long met places)) (same_number j within same))

    -- its latest place
    pub placed : (k : ℕ) → get_or latest number 0 ≡ suc k → IsLatest (names_at met places) n k
    placed k e =
        let r = latest_some number (numbers_in places) k (sym (h.each number inside) ∙ e) in
        let within : k < length places = omega (arith, r.inside, numbers_long met places) in
        record {
          inside = omega (arith, within, names_long met places);
          same = name_of met places k within ∙ ap (λ m. get_or met m []) r.same ∙ is;
          later = λ j lt le same.
              let here : j < length places = omega (arith, le, names_long met places) in
              r.later j lt (omega (arith, here, numbers_long met places)) (same_number j here same);
        }

-- a number above all has no place
latest_absent : (n : ℕ) (places : List NameEntry) → All (λ (p : NameEntry). p.number < n) places → latest_of n (numbers_in places) ≡ 0
latest_absent n [] h = refl
latest_absent n (p ∷ places) h = elim (tells p.number n) [
  | inl e ↦ (let lt : p.number < n = All-head (λ (q : NameEntry). q.number < n) p places h in absurd (omega (arith, lt, e.1)))
  | inr e ↦ (λ i. place_after (latest_absent n places (All-tail (λ (q : NameEntry). q.number < n) p places h) i) (e.0 i))
]

-- more names are met
names_more : (met more : List Name) (places : List NameEntry) → All (λ (p : NameEntry). p.number < length met) places → names_at (met ++ more) places ≡ names_at met places
names_more met more [] h = refl
names_more met more (p ∷ places) h =
    let one : get_or (met ++ more) p.number [] ≡ get_or met p.number [] = get_or_append_left met more [] p.number (All-head (λ (q : NameEntry). q.number < length met) p places h) in
    let rest = names_more met more places (All-tail (λ (q : NameEntry). q.number < length met) p places h) in
    λ i. one i ∷ rest i

pub names_kept : (met more : List Name) (latest later : List ℕ) (places : List NameEntry) → IsStack met latest places → MeetsName met latest more later → names_at more places ≡ names_at met places
names_kept met more latest later places h (inl e) = ap (λ ns. names_at ns places) e.0
names_kept met more latest later places h (inr e) = ap (λ ns. names_at ns places) e.1 ∙ names_more met (e.0 ∷ []) places h.there

pub stack_kept : (met more : List Name) (latest later : List ℕ) (places : List NameEntry) → IsStack met latest places → MeetsName met latest more later → IsStack more later places
stack_kept met more latest later places h (inl e) = subst (λ ns. IsStack ns later places) (sym e.0) (subst (λ ls. IsStack met ls places) (sym e.1) h)
stack_kept met more latest later places h (inr e) = subst (λ ns. IsStack ns later places) (sym e.1) (subst (λ ls. IsStack (met ++ e.0 ∷ []) ls places) (sym e.2) (record {
  long = omega (arith, length-append latest (0 ∷ []), length-append met (e.0 ∷ []), h.long);
  there = All-weaker (λ (p : NameEntry). p.number < length met) (λ (p : NameEntry). p.number < length (met ++ e.0 ∷ [])) (λ p lt. omega (arith, lt, length-append met (e.0 ∷ []))) places h.there;
  each = each;
  hidden = h.hidden;
}))
  where
    each : (k : ℕ) → k < length (met ++ e.0 ∷ []) → get_or (latest ++ 0 ∷ []) k 0 ≡ latest_of k (numbers_in places)
    each k lt = elim (cases_lt k (length met)) [
      | inl le ↦ get_or_append_left latest (0 ∷ []) 0 k (omega (arith, le, h.long)) ∙ h.each k le
      | inr ge ↦
          (let is : k ≡ length met = omega (arith, ge, lt, length-append met (e.0 ∷ [])) in
          ap (λ j. get_or (latest ++ 0 ∷ []) j 0) (is ∙ sym h.long) ∙ get_or-append_seam latest 0 [] 0
          ∙ sym (latest_absent k places (subst (λ j. All (λ (p : NameEntry). p.number < j) places) (sym is) h.there)))
    ]

module _ (met : List Name) (latest : List ℕ) (places : List NameEntry) (h : IsStack met latest places) where
  numbers_with : (p : NameEntry) → numbers_in (places ++ p ∷ []) ≡ numbers_in places ++ p.number ∷ []
  numbers_with p = map-append (λ (q : NameEntry). q.number) places (p ∷ [])

  -- a place more
  pub stack_pushed : (k m : ℕ) (p : NameEntry) → k < length met → m ≡ suc (length places) → p.number ≡ k → p.hidden ≡ get_or latest k 0 → IsStack met (set latest k m) (places ++ p ∷ [])
  stack_pushed k m p inside count number_is hidden_is = record {
    long = length-set latest k m ∙ h.long;
    there = All-push (λ (q : NameEntry). q.number < length met) places p h.there (omega (arith, number_is, inside));
    each = each;
    hidden = hidden;
  }
    where
      each : (j : ℕ) → j < length met → get_or (set latest k m) j 0 ≡ latest_of j (numbers_in (places ++ p ∷ []))
      each j lt = elim (tells p.number j) [
        | inl e ↦
            (let is : k ≡ j = sym number_is ∙ e.1 in
            ap (λ i. get_or (set latest k m) i 0) (sym is) ∙ get_or-set_same latest k m 0 (omega (arith, inside, h.long)) ∙ count ∙ ap suc (sym (numbers_long met places))
            ∙ sym (latest_same j p.number (numbers_in places) e.1) ∙ ap (latest_of j) (sym (numbers_with p)))
        | inr e ↦
            (let other : j ≡ k → ⊥ = λ same. e.1 (number_is ∙ sym same) in
            get_or-set_other latest k j m 0 other ∙ h.each j lt ∙ sym (latest_other j p.number (numbers_in places) e.1) ∙ ap (latest_of j) (sym (numbers_with p)))
      ]

      hidden : (j : ℕ) → j < length (places ++ p ∷ []) → (get_or (places ++ p ∷ []) j no_place).hidden ≡ latest_of (get_or (places ++ p ∷ []) j no_place).number (take j (numbers_in (places ++ p ∷ [])))
      hidden j lt = elim (cases_lt j (length places)) [
        | inl le ↦
            (let here : get_or (places ++ p ∷ []) j no_place ≡ get_or places j no_place = get_or_append_left places (p ∷ []) no_place j le in
            let front : take j (numbers_in (places ++ p ∷ [])) ≡ take j (numbers_in places) = ap (take j) (numbers_with p) ∙ take-append-le j (numbers_in places) (p.number ∷ []) (omega (arith, le, numbers_long met places)) in
            ap (λ (q : NameEntry). q.hidden) here ∙ h.hidden j le ∙ (λ i. latest_of (sym here i).number (sym front i)))
        | inr ge ↦
            (let is : j ≡ length places = omega (arith, ge, lt, length-append places (p ∷ [])) in
            let here : get_or (places ++ p ∷ []) j no_place ≡ p = ap (λ i. get_or (places ++ p ∷ []) i no_place) is ∙ get_or-append_seam places p [] no_place in
            let front : take j (numbers_in (places ++ p ∷ [])) ≡ numbers_in places = ap (take j) (numbers_with p) ∙ take_at (numbers_in places) (p.number ∷ []) j (numbers_long met places ∙ sym is) in
            ap (λ (q : NameEntry). q.hidden) here ∙ hidden_is ∙ h.each k inside ∙ ap (λ n. latest_of n (numbers_in places)) (sym number_is) ∙ (λ i. latest_of (sym here i).number (sym front i)))
      ]

  -- a place less
  pub stack_popped : (es : List NameEntry) (e : NameEntry) → places ≡ es ++ e ∷ [] → IsStack met (set latest e.number e.hidden) es
  stack_popped es e is = record {
    long = length-set latest e.number e.hidden ∙ h.long;
    there = λ j d lt. subst (λ (q : NameEntry). q.number < length met) (before j d lt) (h.there j d (omega (arith, lt, more)));
    each = each;
    hidden = λ j lt.
        let here = before j no_place lt in
        let front : take j (numbers_in places) ≡ take j (numbers_in es) = ap (take j) numbers_are ∙ take-append-le j (numbers_in es) (e.number ∷ []) (omega (arith, lt, long_es)) in
        ap (λ (q : NameEntry). q.hidden) (sym here) ∙ h.hidden j (omega (arith, lt, more)) ∙ (λ i. latest_of (here i).number (front i));
  }
    where
      more : length places ≡ length es + 1
      more = ap length is ∙ length-append es (e ∷ [])

      long_es : length (numbers_in es) ≡ length es
      long_es = length-map es (λ (q : NameEntry). q.number)

      numbers_are : numbers_in places ≡ numbers_in es ++ e.number ∷ []
      numbers_are = ap numbers_in is ∙ map-append (λ (q : NameEntry). q.number) es (e ∷ [])

      before : (j : ℕ) (d : NameEntry) → j < length es → get_or places j d ≡ get_or es j d
      before j d lt = ap (λ qs. get_or qs j d) is ∙ get_or_append_left es (e ∷ []) d j lt

      last : get_or places (length es) no_place ≡ e
      last = ap (λ qs. get_or qs (length es) no_place) is ∙ get_or-append_seam es e [] no_place

      inside : e.number < length met
      inside = subst (λ (q : NameEntry). q.number < length met) last (h.there (length es) no_place (omega (arith, more)))

      hidden_is : e.hidden ≡ latest_of e.number (numbers_in es)
      hidden_is =
          ap (λ (q : NameEntry). q.hidden) (sym last) ∙ h.hidden (length es) (omega (arith, more))
          ∙ (λ i. latest_of (last i).number (take (length es) (numbers_in places)))
          ∙ ap (latest_of e.number) (ap (take (length es)) numbers_are ∙ take_at (numbers_in es) (e.number ∷ []) (length es) long_es)

      each : (j : ℕ) → j < length met → get_or (set latest e.number e.hidden) j 0 ≡ latest_of j (numbers_in es)
      each j lt = elim (tells e.number j) [
        | inl s ↦ ap (λ i. get_or (set latest e.number e.hidden) i 0) (sym s.1) ∙ get_or-set_same latest e.number e.hidden 0 (omega (arith, inside, h.long)) ∙ hidden_is ∙ ap (λ n. latest_of n (numbers_in es)) s.1
        | inr s ↦ get_or-set_other latest e.number j e.hidden 0 (λ same. s.1 (sym same)) ∙ h.each j lt ∙ ap (latest_of j) numbers_are ∙ latest_other j e.number (numbers_in es) s.1
      ]

-- what is there is there by any other default
pub in_range : {A : Type 0} (xs : List A) (k : ℕ) (d e : A) → k < length xs → get_or xs k d ≡ get_or xs k e
in_range [] k d e lt = absurd (omega (arith, lt))
in_range (x ∷ xs) zero d e lt = refl
in_range (x ∷ xs) (suc k) d e lt = in_range xs k d e (omega (arith, lt))

-- a name more at places
pub names_push : (met : List Name) (places : List NameEntry) (p : NameEntry) (n : Name) → get_or met p.number [] ≡ n → names_at met (places ++ p ∷ []) ≡ names_at met places ++ n ∷ []
names_push met places p n is = map-append (λ (q : NameEntry). get_or met q.number []) places (p ∷ []) ∙ ap (λ m. names_at met places ++ m ∷ []) is

-- the first names
pub names_front : (met : List Name) (places : List NameEntry) (k : ℕ) → names_at met (take k places) ≡ take k (names_at met places)
names_front met places k = sym (take-map (λ (q : NameEntry). get_or met q.number []) k places)
