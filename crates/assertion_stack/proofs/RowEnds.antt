-- Rows of bytes in one list, by where each of them ends.
use Rattle.std.proofs.Common.{◌≡◌, ◌≤◌, ◌<◌, ℕ, zero, suc, ◌+◌, ◌-◌, List, [], ◌∷◌, ◌++◌, length, take, drop, get_or, refl, sym, ap, ◌∙◌, subst, arith}
use Rattle.std.proofs.lemmas.List.{take-take, drop-take, take_all, take_at, drop_at, length-append, length-take-le}
use Rattle.std.specs.Prelude.{slice_range}
use Rattle.assertion_stack.specs.Printing.{KeepsFront}
use Rattle.assertion_stack.specs.Rows.{rows_from, begin_of, AreEnds}

-- as many rows as ends
pub rows_long : (bytes : List ℕ) (from : ℕ) (es : List ℕ) → length (rows_from bytes from es) ≡ length es
rows_long bytes from [] = refl
rows_long bytes from (e ∷ es) = omega (arith, rows_long bytes e es)

-- the first ones begin and end within the bytes
end_within : (from : ℕ) (es : List ℕ) (n : ℕ) → AreEnds from es n → from ≤ n
end_within from [] n h = omega (arith, h)
end_within from (e ∷ es) n h = omega (arith, h.0, end_within e es n h.1)

pub begin_within : (from : ℕ) (es : List ℕ) (n k : ℕ) → AreEnds from es n → begin_of from es k ≤ n
begin_within from [] n k h = omega (arith, h)
begin_within from (e ∷ es) n zero h = end_within from (e ∷ es) n h
begin_within from (e ∷ es) n (suc k) h = begin_within e es n k h.1

-- a row ends where it begins or later, within the bytes
pub row_within : (from : ℕ) (es : List ℕ) (n k d : ℕ) → AreEnds from es n → k < length es → (begin_of from es k ≤ get_or es k d) × (get_or es k d ≤ n)
row_within from [] n k d h lt = absurd (omega (arith, lt))
row_within from (e ∷ es) n zero d h lt = (h.0, end_within e es n h.1)
row_within from (e ∷ es) n (suc k) d h lt = row_within e es n k d h.1 (omega (arith, lt))

-- a row begins where the one before it ends
begin_first : (from : ℕ) (es : List ℕ) → begin_of from es 0 ≡ from
begin_first from [] = refl
begin_first from (e ∷ es) = refl

begin_next : (from : ℕ) (es : List ℕ) (k d : ℕ) → k < length es → get_or es k d ≡ begin_of from es (suc k)
begin_next from [] k d lt = absurd (omega (arith, lt))
begin_next from (e ∷ es) zero d lt = sym (begin_first e es)
begin_next from (e ∷ es) (suc k) d lt = begin_next e es k d (omega (arith, lt))

pub begin_zero : (es : List ℕ) (k : ℕ) → k ≡ 0 → 0 ≡ begin_of 0 es k
begin_zero es k e = sym (ap (begin_of 0 es) e ∙ begin_first 0 es)

pub begin_after : (es : List ℕ) (k d : ℕ) → (k ≡ 0 → ⊥) → k ≤ length es → get_or es (k - 1) d ≡ begin_of 0 es k
begin_after es zero d some le = absurd (some refl)
begin_after es (suc k) d some le = let e : suc k - 1 ≡ k = omega arith in ap (λ j. get_or es j d) e ∙ begin_next 0 es k d (omega (arith, le))

-- the row of a place
pub row_at : (bytes : List ℕ) (from : ℕ) (es : List ℕ) (k d : ℕ) → k < length es → get_or (rows_from bytes from es) k [] ≡ slice_range bytes (begin_of from es k) (get_or es k d)
row_at bytes from [] k d lt = absurd (omega (arith, lt))
row_at bytes from (e ∷ es) zero d lt = refl
row_at bytes from (e ∷ es) (suc k) d lt = row_at bytes e es k d (omega (arith, lt))

-- what comes after the last row changes none
slice_front : (bytes : List ℕ) (n a b : ℕ) → a ≤ b → b ≤ n → slice_range (take n bytes) a b ≡ slice_range bytes a b
slice_front bytes n a b ab bn =
    let e : n ≡ a + (n - a) = omega (arith, ab, bn) in
    ap (λ m. take (b - a) (drop a (take m bytes))) e ∙ ap (take (b - a)) (drop-take a (n - a) bytes) ∙ take-take (b - a) (n - a) (drop a bytes) (omega (arith, ab, bn))

rows_front : (bytes : List ℕ) (n from : ℕ) (es : List ℕ) → AreEnds from es n → rows_from (take n bytes) from es ≡ rows_from bytes from es
rows_front bytes n from [] h = refl
rows_front bytes n from (e ∷ es) h =
    let first = slice_front bytes n from e h.0 (end_within e es n h.1) in
    let others = rows_front bytes n e es h.1 in
    λ i. first i ∷ others i

-- one row more
rows_last : (bytes : List ℕ) (from : ℕ) (es : List ℕ) (n e : ℕ) → AreEnds from es n → rows_from bytes from (es ++ e ∷ []) ≡ rows_from bytes from es ++ slice_range bytes n e ∷ []
rows_last bytes from [] n e h = ap (λ a. slice_range bytes a e ∷ []) h
rows_last bytes from (x ∷ es) n e h = ap (λ rs. slice_range bytes from x ∷ rs) (rows_last bytes x es n e h.1)

ends_last : (from : ℕ) (es : List ℕ) (n e : ℕ) → AreEnds from es n → n ≤ e → AreEnds from (es ++ e ∷ []) e
ends_last from [] n e h le = (omega (arith, h, le), refl)
ends_last from (x ∷ es) n e h le = (h.0, ends_last x es n e h.1 le)

module _ (old new row es : List ℕ) (h : AreEnds 0 es (length old)) (is : new ≡ old ++ row) where
  pub row_added : (e : ℕ) → e ≡ length new → rows_from new 0 (es ++ e ∷ []) ≡ rows_from old 0 es ++ row ∷ []
  row_added e long =
      let longer : e ≡ length old + length row = long ∙ ap length is ∙ length-append old row in
      let before : rows_from new 0 es ≡ rows_from old 0 es = sym (rows_front new (length old) 0 es h) ∙ ap (λ bs. rows_from bs 0 es) (ap (take (length old)) is ∙ take_at old row (length old) refl) in
      let last : slice_range new (length old) e ≡ row = ap (take (e - length old)) (ap (drop (length old)) is ∙ drop_at old row (length old) refl) ∙ take_all (e - length old) row (omega (arith, longer)) in
      rows_last new 0 es (length old) e h ∙ (λ i. before i ++ last i ∷ [])

  pub ends_added : (e : ℕ) → e ≡ length new → AreEnds 0 (es ++ e ∷ []) (length new)
  ends_added e long =
      subst (λ n. AreEnds 0 (es ++ e ∷ []) n) long (ends_last 0 es (length old) e h (omega (arith, long ∙ ap length is ∙ length-append old row)))

-- the first rows
rows_take : (bytes : List ℕ) (from : ℕ) (es : List ℕ) (k : ℕ) → rows_from bytes from (take k es) ≡ take k (rows_from bytes from es)
rows_take bytes from es zero = refl
rows_take bytes from [] (suc k) = refl
rows_take bytes from (e ∷ es) (suc k) = ap (λ rs. slice_range bytes from e ∷ rs) (rows_take bytes e es k)

ends_take : (from : ℕ) (es : List ℕ) (n k : ℕ) → AreEnds from es n → AreEnds from (take k es) (begin_of from es k)
ends_take from es n zero h = sym (begin_first from es)
ends_take from [] n (suc k) h = refl
ends_take from (e ∷ es) n (suc k) h = (h.0, ends_take e es n k h.1)

module _ (bytes es : List ℕ) (k at : ℕ) (h : AreEnds 0 es (length bytes)) (is : at ≡ begin_of 0 es k) where
  pub rows_cut : rows_from (take at bytes) 0 (take k es) ≡ take k (rows_from bytes 0 es)
  rows_cut = rows_front bytes at 0 (take k es) (subst (AreEnds 0 (take k es)) (sym is) (ends_take 0 es (length bytes) k h)) ∙ rows_take bytes 0 es k

  pub ends_cut : AreEnds 0 (take k es) (length (take at bytes))
  ends_cut =
      let long : length (take at bytes) ≡ at = length-take-le at bytes (omega (arith, is, begin_within 0 es (length bytes) k h)) in
      subst (AreEnds 0 (take k es)) (sym (long ∙ is)) (ends_take 0 es (length bytes) k h)

-- what was there stays
pub front_same : (xs : List ℕ) → KeepsFront xs xs
front_same xs = take_all (length xs) xs (omega arith)

pub front_more : (xs ys zs : List ℕ) → ys ≡ xs ++ zs → KeepsFront xs ys
front_more xs ys zs e = ap (take (length xs)) e ∙ take_at xs zs (length xs) refl

pub front_further : (xs ys zs : List ℕ) → KeepsFront xs ys → KeepsFront ys zs → KeepsFront xs zs
front_further xs ys zs h k =
    let le : length xs ≤ length ys = front_long xs ys h in
    sym (take-take (length xs) (length ys) zs le) ∙ ap (take (length xs)) k ∙ h
  where
    front_long : (us vs : List ℕ) → KeepsFront us vs → length us ≤ length vs
    front_long [] vs f = omega arith
    front_long (u ∷ us) [] f = absurd (omega (arith, ap length f))
    front_long (u ∷ us) (v ∷ vs) f = omega (arith, front_long us vs (ap (drop 1) f))
