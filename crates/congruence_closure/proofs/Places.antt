-- Lists by the numbers of terms, which find places.
use Rattle.std.proofs.Common.{◌≡◌, ◌≢◌, ℕ, ◌+◌, ◌-◌, ◌<◌, ◌≤◌, true, List, [], ◌∷◌, ◌++◌, length, get_or, set, take, inl, inr, ◌⊎◌, sym, ap, ◌∙◌, subst, arith}
use Rattle.std.specs.Prelude.{Vec, Contains}
use Rattle.std.specs.declared.alloc.Global.{Global}
use Rattle.std.proofs.lemmas.Bool.{cases_lt, cases_eq}
use Rattle.std.proofs.lemmas.List.{map-set, length-set, get_or-map, get_or-set_same, get_or-set_other, get_or_append_left, get_or_past, get_or_default, get_or-take, set_past, length-take-le, length_push, get_or_push}
use Rattle.std.proofs.lemmas.List.Elements.{All-more}
use Rattle.term_core.specs.declared.ids.TermId.{TermId}
use Rattle.congruence_relation.specs.Relation.{Application}
use Rattle.congruence_closure.specs.Listed.{nth, no_application, IsListed, AreUsers}
use Rattle.congruence_closure.specs.Tables.{lists, AreGrown, HaveKept, HaveKeptBelow, HaveNoted, IsIndexed}

-- the list of a place, as it is
pub list_at : (vs : List (Vec ℕ Global)) (k : ℕ) (v : Vec ℕ Global) → k < length vs → v ≡ get_or vs k v → v.items ≡ get_or (lists vs) k []
list_at vs k v lt e = ap (λ (w : Vec ℕ Global). w.items) e ∙ sym (get_or-map (λ (w : Vec ℕ Global). w.items) vs k v [] lt)

-- one list is changed
pub lists_set : (vs : List (Vec ℕ Global)) (k : ℕ) (v : Vec ℕ Global) → lists (set vs k v) ≡ set (lists vs) k v.items
lists_set vs k v = map-set (λ (w : Vec ℕ Global). w.items) vs k v

-- an empty list came last
pub kept_push : (old all new : List (List ℕ)) → HaveKept old all → new ≡ all ++ [] ∷ [] → HaveKept old new
kept_push old all new h e t i there = elim (cases_lt t (length all)) [
  | inl lt ↦ subst (λ (xs : List ℕ). Contains xs i) (sym (ap (λ xs. get_or xs t []) e ∙ get_or_append_left all ([] ∷ []) [] t lt)) (h t i there)
  | inr past ↦ absurd (none (subst (λ (xs : List ℕ). Contains xs i) (get_or_past all t [] past) (h t i there)))
]
  where
    none : Contains [] i → ⊥
    none c = omega (arith, c.1)

-- the list of a place has what it had
pub kept_set : (all new : List (List ℕ)) (k : ℕ) (ys : List ℕ) → new ≡ set all k ys → ((i : ℕ) → Contains (get_or all k []) i → Contains ys i) → HaveKept all new
kept_set all new k ys e h t i there = elim (cases_eq t k) [
  | inl is ↦ elim (cases_lt k (length all)) [
    | inl lt ↦ subst (λ (xs : List ℕ). Contains xs i) (sym (ap (λ xs. get_or xs t []) e ∙ ap (λ j. get_or (set all k ys) j []) is ∙ get_or-set_same all k ys [] lt)) (h i (subst (λ j. Contains (get_or all j []) i) is there))
    | inr past ↦ subst (λ (xs : List ℕ). Contains xs i) (sym (ap (λ xs. get_or xs t []) (e ∙ set_past all k ys past))) there
  ]
  | inr other ↦ subst (λ (xs : List ℕ). Contains xs i) (sym (ap (λ xs. get_or xs t []) e ∙ get_or-set_other all k t ys [] other)) there
]

-- or what it had below a place
pub kept_below_set : (all new : List (List ℕ)) (k place : ℕ) (ys : List ℕ) → new ≡ set all k ys → ((i : ℕ) → i < place → Contains (get_or all k []) i → Contains ys i) → HaveKeptBelow place all new
kept_below_set all new k place ys e h t i low there = elim (cases_eq t k) [
  | inl is ↦ elim (cases_lt k (length all)) [
    | inl lt ↦ subst (λ (xs : List ℕ). Contains xs i) (sym (ap (λ xs. get_or xs t []) e ∙ ap (λ j. get_or (set all k ys) j []) is ∙ get_or-set_same all k ys [] lt)) (h i low (subst (λ j. Contains (get_or all j []) i) is there))
    | inr past ↦ subst (λ (xs : List ℕ). Contains xs i) (sym (ap (λ xs. get_or xs t []) (e ∙ set_past all k ys past))) there
  ]
  | inr other ↦ subst (λ (xs : List ℕ). Contains xs i) (sym (ap (λ xs. get_or xs t []) e ∙ get_or-set_other all k t ys [] other)) there
]

-- a place that is not the last is still there without it
pub before_last : (xs : List ℕ) (place i : ℕ) → 0 < length xs → place ≤ get_or xs (length xs - 1) 0 → i < place → Contains xs i → Contains (take (length xs - 1) xs) i
before_last xs place i some last low there = (there.0, omega (arith, lower, cut), get_or-take (length xs - 1) xs there.0 i lower ∙ there.2)
  where
    cut : length (take (length xs - 1) xs) ≡ length xs - 1
    cut = length-take-le (length xs - 1) xs (omega arith)

    lower : there.0 < length xs - 1
    lower = elim (cases_lt there.0 (length xs - 1)) [
      | inl lt ↦ lt
      | inr past ↦
          let is : there.0 ≡ length xs - 1 = omega (arith, there.1, past) in
          let same : get_or xs (length xs - 1) 0 ≡ i = ap (λ k. get_or xs k 0) (sym is) ∙ get_or_default xs there.0 0 i there.1 ∙ there.2 in
          absurd (omega (arith, same, last, low))
    ]

-- a place was put into one more list
pub noted_more : (ts : List TermId) (k place : ℕ) (all grown new : List (List ℕ)) (t : TermId) → k < length ts → t ≡ get_or ts k t → HaveNoted (take k ts) place all → HaveKept all grown → HaveKept grown new
    → Contains (get_or new t.0 []) place → HaveNoted (take (k + 1) ts) place new
noted_more ts k place all grown new t lt is noted kept more here = All-more (λ (u : TermId). Contains (get_or new u.0 []) place) ts k t lt before (subst (λ (u : TermId). Contains (get_or new u.0 []) place) is here)
  where
    before : HaveNoted (take k ts) place new
    before j d low = more _ place (kept _ place (noted j d low))

-- no list has a place where the others have none
pub none_there : (all : List (List ℕ)) (t i : ℕ) → length all ≤ t → Contains (get_or all t []) i → ⊥
none_there all t i past c = absurd (omega (arith, c.1, ap length (get_or_past all t [] past)))

-- the lists of a listing have all users
pub users_found : (listed : List Application) (places : List ℕ) (all : List (List ℕ)) (t : TermId) (xs : List ℕ) → IsIndexed listed places all → xs ≡ get_or all t.0 [] → AreUsers listed t xs
users_found listed places all t xs h e i lt part there = subst (λ (ys : List ℕ). Contains ys i) (sym e) (h.users i t lt part there)

-- a term that is not the one its entry leads to is not listed
pub not_listed : (listed : List Application) (places : List ℕ) (all : List (List ℕ)) (t : TermId) → IsIndexed listed places all
    → ((t.0 < length places) → (get_or places t.0 0 < length listed) → (nth listed (get_or places t.0 0)).term ≡ t → ⊥) → IsListed listed t → ⊥
not_listed listed places all t h absent (i, (lt, is)) =
    let same : get_or places t.0 0 ≡ i = ap (λ (u : TermId). get_or places u.0 0) (sym is) ∙ h.places i lt in
    absent (subst (λ (u : TermId). u.0 < length places) is (h.low i lt)) (subst (λ k. k < length listed) (sym same) lt) (ap (λ k. (nth listed k).term) same ∙ is)

-- the terms below a count are listed so still
pub indexed_take : (listed : List Application) (places : List ℕ) (all new : List (List ℕ)) (n : ℕ) → n ≤ length listed → HaveKeptBelow n all new → IsIndexed listed places all → IsIndexed (take n listed) places new
indexed_take listed places all new n le kept h = record {
  once = λ i j a b e. h.once i j (low i a) (low j b) (sym (ap (λ (x : Application). x.term) (same i a)) ∙ e ∙ ap (λ (x : Application). x.term) (same j b));
  low = λ i a. subst (λ (x : Application). x.term.0 < length places) (sym (same i a)) (h.low i (low i a));
  places = λ i a. ap (λ (x : Application). get_or places x.term.0 0) (same i a) ∙ h.places i (low i a);
  users = λ i t a part c. kept t.0 i (below i a) (h.users i t (low i a) (sym (ap (λ (x : Application). x.takes_part) (same i a)) ∙ part) (subst (λ (x : Application). Contains x.shape.arguments t) (same i a) c));
}
  where
    below : (i : ℕ) → i < length (take n listed) → i < n
    below i a = omega (arith, a, length-take-le n listed le)

    low : (i : ℕ) → i < length (take n listed) → i < length listed
    low i a = omega (arith, below i a, le)

    same : (i : ℕ) → i < length (take n listed) → nth (take n listed) i ≡ nth listed i
    same i a = get_or-take n listed i no_application (below i a)

-- a term came last
pub indexed_push : (listed : List Application) (old grown : List ℕ) (all new : List (List ℕ)) (x : Application) → IsIndexed listed old all → (IsListed listed x.term → ⊥) → AreGrown old grown
    → x.term.0 < length grown → HaveKeptBelow (length listed) all new → (x.takes_part ≡ true → HaveNoted x.shape.arguments (length listed) new) → IsIndexed (listed ++ x ∷ []) (set grown x.term.0 (length listed)) new
indexed_push listed old grown all new x h absent grew there kept noted = record {
  once = λ i j a b e. once i j (cases i a) (cases j b) e;
  low = λ i a. subst (λ n. (nth (listed ++ x ∷ []) i).term.0 < n) (sym (length-set grown x.term.0 (length listed))) (low i (cases i a));
  places = λ i a. entry i (cases i a);
  users = λ i t a part c. user i t (cases i a) part c;
}
  where
    cases : (i : ℕ) → i < length (listed ++ x ∷ []) → (i < length listed) ⊎ (i ≡ length listed)
    cases i a = elim (cases_lt i (length listed)) [
      | inl lt ↦ inl lt
      | inr past ↦ inr (omega (arith, past, a, length_push listed x))
    ]

    old_at : (i : ℕ) → i < length listed → nth (listed ++ x ∷ []) i ≡ nth listed i
    old_at i lt = get_or_append_left listed (x ∷ []) no_application i lt

    new_at : (i : ℕ) → i ≡ length listed → nth (listed ++ x ∷ []) i ≡ x
    new_at i e = get_or_push listed x no_application i (sym e)

    term_of : {a b : Application} → a ≡ b → a.term ≡ b.term
    term_of e = ap (λ (y : Application). y.term) e

    once : (i j : ℕ) → (i < length listed) ⊎ (i ≡ length listed) → (j < length listed) ⊎ (j ≡ length listed) → (nth (listed ++ x ∷ []) i).term ≡ (nth (listed ++ x ∷ []) j).term → i ≡ j
    once i j (inl a) (inl b) e = h.once i j a b (sym (term_of (old_at i a)) ∙ e ∙ term_of (old_at j b))
    once i j (inl a) (inr b) e = absurd (absent (i, (a, sym (term_of (old_at i a)) ∙ e ∙ term_of (new_at j b))))
    once i j (inr a) (inl b) e = absurd (absent (j, (b, sym (term_of (old_at j b)) ∙ sym e ∙ term_of (new_at i a))))
    once i j (inr a) (inr b) e = a ∙ sym b

    low : (i : ℕ) → (i < length listed) ⊎ (i ≡ length listed) → (nth (listed ++ x ∷ []) i).term.0 < length grown
    low i (inl a) = subst (λ (y : Application). y.term.0 < length grown) (sym (old_at i a)) (omega (arith, h.low i a, grew.longer))
    low i (inr a) = subst (λ (y : Application). y.term.0 < length grown) (sym (new_at i a)) there

    apart : (i : ℕ) → i < length listed → (nth listed i).term.0 ≢ x.term.0
    apart i a e = absent (i, (a, λ k. record { 0 = e k }))

    entry : (i : ℕ) → (i < length listed) ⊎ (i ≡ length listed) → get_or (set grown x.term.0 (length listed)) (nth (listed ++ x ∷ []) i).term.0 0 ≡ i
    entry i (inl a) = ap (λ (y : Application). get_or (set grown x.term.0 (length listed)) y.term.0 0) (old_at i a)
        ∙ get_or-set_other grown x.term.0 (nth listed i).term.0 (length listed) 0 (apart i a) ∙ grew.same (nth listed i).term.0 (h.low i a) ∙ h.places i a
    entry i (inr a) = ap (λ (y : Application). get_or (set grown x.term.0 (length listed)) y.term.0 0) (new_at i a) ∙ get_or-set_same grown x.term.0 (length listed) 0 there ∙ sym a

    user : (i : ℕ) (t : TermId) → (i < length listed) ⊎ (i ≡ length listed) → (nth (listed ++ x ∷ []) i).takes_part ≡ true → Contains (nth (listed ++ x ∷ []) i).shape.arguments t → Contains (get_or new t.0 []) i
    user i t (inl a) part c = kept t.0 i a (h.users i t a (sym (ap (λ (y : Application). y.takes_part) (old_at i a)) ∙ part) (subst (λ (y : Application). Contains y.shape.arguments t) (old_at i a) c))
    user i t (inr a) part c =
        let taken : x.takes_part ≡ true = sym (ap (λ (y : Application). y.takes_part) (new_at i a)) ∙ part in
        let at : Contains x.shape.arguments t = subst (λ (y : Application). Contains y.shape.arguments t) (new_at i a) c in
        subst (λ k. Contains (get_or new t.0 []) k) (sym a) (subst (λ (u : TermId). Contains (get_or new u.0 []) (length listed)) at.2 (noted taken at.0 t at.1))

-- the lists may change where the terms are the same
pub indexed_kept : (listed : List Application) (old grown : List ℕ) (all new : List (List ℕ)) → IsIndexed listed old all → AreGrown old grown → HaveKeptBelow (length listed) all new → IsIndexed listed grown new
indexed_kept listed old grown all new h grew kept = record {
  once = h.once;
  low = λ i a. omega (arith, h.low i a, grew.longer);
  places = λ i a. grew.same (nth listed i).term.0 (h.low i a) ∙ h.places i a;
  users = λ i t a part c. kept t.0 i a (h.users i t a part c);
}
