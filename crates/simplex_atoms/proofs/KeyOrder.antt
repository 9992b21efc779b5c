-- Entries have one key: in the order of their variables, where those of one variable stay in their order, they stand in one way.
use Rattle.std.proofs.Common.{◌≡◌, ℕ, suc, ◌<◌, ◌≤◌, Bool, true, false, not, ◌&&◌, inl, inr, List, [], ◌∷◌, length, get_or, cond, refl, sym, ◌∙◌, ap, arith}
use Rattle.std.specs.Prelude.{filter}
use Rattle.std.specs.Ordering.{is_lt, nat_cmp}
use Rattle.std.specs.declared.cmp.Ordering.TheVariants.{Less, Equal}
use Rattle.std.specs.Cmp.{nat_cmp_is}
use Rattle.std.specs.List.Sorted.{IsNonDecreasingBy, ties}
use Rattle.std.proofs.lemmas.Bool.{and_parts, false≢true, cases_lt}
use Rattle.spec_tableaux.specs.Rows.{Entry}
use Rattle.spec_tableaux.specs.Numbers.{Number}
use Rattle.ratio128.proofs.Same.{same_ratio}
use Rattle.tableau.specs.declared.entries.Entry.{Entry as CodeEntry}
use Rattle.tableau.specs.Entries.{entry_of, entries_of}
use Rattle.simplex_atoms.specs.declared.keys.Key.{Key}
use Rattle.simplex_atoms.specs.Sums.{signed_entries, begins_negative, key_meant, IsKeyOf}

-- equal lists have equal heads, and equal rests

head_same : {X : Type 0} (x y : X) (xs ys : List X) → x ∷ xs ≡ y ∷ ys → x ≡ y
head_same x y xs ys e = cc

rest_same : {X : Type 0} (x y : X) (xs ys : List X) → x ∷ xs ≡ y ∷ ys → xs ≡ ys
rest_same x y xs ys e = cc

none_some : {X : Type 0} (x : X) (xs : List X) → [] ≡ x ∷ xs → ⊥
none_some x xs e = cc

-- lists that rise by a number of each element
module _ {X : Type 0} (n : X → ℕ) where
  -- neither is before the other
  abbrev level : X → X → Bool
  level = ties (λ x y. is_lt (nat_cmp (n x) (n y)))

  before : (x y : X) → n x < n y → is_lt (nat_cmp (n x) (n y)) ≡ true
  before x y lt = ap is_lt (sym (nat_cmp_is (n x) (n y) Less lt))

  level_same : (x y : X) → level x y ≡ true → n x ≡ n y
  level_same x y h = elim (cases_lt (n x) (n y)) [
    | inl lt ↦ absurd (false≢true (ap not (sym (before x y lt)) ∙ (and_parts _ _ h).0))
    | inr ge ↦ elim (cases_lt (n y) (n x)) [
      | inl lt ↦ absurd (false≢true (ap not (sym (before y x lt)) ∙ (and_parts _ _ h).1))
      | inr le ↦ omega (arith, ge, le)
    ]
  ]

  same_level : (x y : X) → n x ≡ n y → level x y ≡ true
  same_level x y e =
      λ i. not (is_lt (sym (nat_cmp_is (n x) (n y) Equal e) i)) && not (is_lt (sym (nat_cmp_is (n y) (n x) Equal (sym e)) i))

  abbrev of_level : X → List X → List X
  of_level x xs = filter (level x) xs

  kept : (x y : X) (ys : List X) → level x y ≡ true → of_level x (y ∷ ys) ≡ y ∷ of_level x ys
  kept x y ys h = ap (λ b. cond b (y ∷ of_level x ys) (of_level x ys)) h

  dropped : (x y : X) (ys : List X) → level x y ≡ false → of_level x (y ∷ ys) ≡ of_level x ys
  dropped x y ys h = ap (λ b. cond b (y ∷ of_level x ys) (of_level x ys)) h

  -- each is at k or above
  abbrev AreFrom : ℕ → List X → Type 0
  AreFrom k [] = Unit {0}
  AreFrom k (x ∷ xs) = (k ≤ n x) × AreFrom k xs

  -- none is above a later one
  abbrev Rise : List X → Type 0
  Rise [] = Unit {0}
  Rise (x ∷ xs) = AreFrom (n x) xs × Rise xs

  are_from : (k : ℕ) (xs : List X) → ((i : ℕ) (d : X) → i < length xs → k ≤ n (get_or xs i d)) → AreFrom k xs
  are_from k [] h = tt
  are_from k (x ∷ xs) h = (h 0 x (omega arith), are_from k xs (λ i d lt. h (suc i) d (omega (arith, lt))))

  rise : (xs : List X) → IsNonDecreasingBy n xs → Rise xs
  rise [] h = tt
  rise (x ∷ xs) h = (
    are_from (n x) xs (λ i d lt. h 0 (suc i) d (omega arith) (omega (arith, lt))),
    rise xs (λ i j d le lt. h (suc i) (suc j) d (omega (arith, le)) (omega (arith, lt))),
  )

  -- a level that is there is at k or above
  found_from : (k : ℕ) (x y : X) (xs rest : List X) → AreFrom k xs → of_level x xs ≡ y ∷ rest → k ≤ n x
  found_from k x y [] rest h e = absurd (none_some y rest e)
  found_from k x y (z ∷ xs) rest h e = by (level x z) refl (λ f. found_from k x y xs rest h.1 f)
    where
      by : (b : Bool) → level x z ≡ b → (of_level x xs ≡ y ∷ rest → k ≤ n x) → k ≤ n x
      by true l later = let same = level_same x z l in omega (arith, h.0, same)
      by false l later = later (sym (dropped x z xs l) ∙ e)

  -- two that rise, and are the same at each level, are the same
  pub one_order : (xs ys : List X) → Rise xs → Rise ys → ((x : X) → of_level x xs ≡ of_level x ys) → xs ≡ ys
  one_order [] [] a b h = refl
  one_order [] (y ∷ ys) a b h = absurd (none_some y (of_level y ys) (h y ∙ kept y y ys (same_level y y refl)))
  one_order (x ∷ xs) [] a b h = absurd (none_some x (of_level x xs) (sym (h x) ∙ kept x x xs (same_level x x refl)))
  one_order (x ∷ xs) (y ∷ ys) a b h = λ i. heads i ∷ one_order xs ys a.1 b.1 rests i
    where
      over : n y ≤ n x
      over = found_from (n y) x x (y ∷ ys) (of_level x xs) (omega arith, b.0) (sym (h x) ∙ kept x x xs (same_level x x refl))

      under : n x ≤ n y
      under = found_from (n x) y y (x ∷ xs) (of_level y ys) (omega arith, a.0) (h y ∙ kept y y ys (same_level y y refl))

      heads : x ≡ y
      heads =
          head_same x y (of_level x xs) (of_level x ys)
          (sym (kept x x xs (same_level x x refl)) ∙ h x ∙ kept x y ys (same_level x y (omega (arith, over, under))))

      rests : (z : X) → of_level z xs ≡ of_level z ys
      rests z = by (level z x) refl
        where
          by : (b : Bool) → level z x ≡ b → of_level z xs ≡ of_level z ys
          by true l = rest_same x y (of_level z xs) (of_level z ys) (sym (kept z x xs l) ∙ h z ∙ kept z y ys (ap (level z) (sym heads) ∙ l))
          by false l = sym (dropped z x xs l) ∙ h z ∙ dropped z y ys (ap (level z) (sym heads) ∙ l)

  -- the same from what a stable sort gives
  pub sorted_once : (es xs ys : List X) → IsNonDecreasingBy n xs → IsNonDecreasingBy n ys → ((x : X) → of_level x xs ≡ of_level x es)
      → ((x : X) → of_level x ys ≡ of_level x es) → xs ≡ ys
  sorted_once es xs ys a b h k = one_order xs ys (rise xs a) (rise ys b) (λ x. h x ∙ sym (k x))

-- entries of one meaning are the same
pub same_entries : (es fs : List CodeEntry) → entries_of es ≡ entries_of fs → es ≡ fs
same_entries [] [] e = refl
same_entries [] (f ∷ fs) e = absurd (none_some (entry_of f) (entries_of fs) e)
same_entries (x ∷ es) [] e = absurd (none_some (entry_of x) (entries_of es) (sym e))
same_entries (x ∷ es) (f ∷ fs) e =
    λ i. one (head_same (entry_of x) (entry_of f) (entries_of es) (entries_of fs) e) i
    ∷ same_entries es fs (rest_same (entry_of x) (entry_of f) (entries_of es) (entries_of fs) e) i
  where
    one : entry_of x ≡ entry_of f → x ≡ f
    one h =
        let k = same_ratio x.coefficient f.coefficient (ap (λ (g : Entry Number). g.coefficient.fraction) h) in
        λ i. record { variable = (h i).variable; coefficient = k i }

-- the law
pub one_key : (es : List CodeEntry) (k l : Key) → IsKeyOf es k → IsKeyOf es l → key_meant k ≡ key_meant l
one_key es k l a b =
    let sorted : a.sorted ≡ b.sorted = sorted_once (λ (e : CodeEntry). e.variable) es a.sorted b.sorted a.order b.order a.stable b.stable in
    let sign : k.opposite ≡ l.opposite = a.opposite ∙ ap (λ (xs : List CodeEntry). begins_negative (entries_of xs)) sorted ∙ sym b.opposite in
    a.is ∙ (λ i. signed_entries (sign i) (entries_of (sorted i))) ∙ sym b.is
