-- Changes that make the rows of an exchange, with the places and columns of variables.
use Rattle.std.proofs.Common.{◌≡◌, ℕ, zero, suc, ◌<◌, ◌==◌, ◌||◌, Bool, true, false, cond, nat_eq, Some, List, [], ◌∷◌, length, map, set, Contains, refl, sym, ap, ◌∙◌, subst, arith, true≢false}
use Rattle.std.specs.List.{list_any}
use Rattle.std.proofs.lemmas.Bool.{or_parts, or_from}
use Rattle.std.proofs.lemmas.Bool.Decides.{nat_tests}
use Rattle.std.proofs.lemmas.List.{ext_get_or, get_or-set_same, get_or-set_other, length-map, length-set}
use Rattle.std.proofs.lemmas.Option.{same_Some}
use Rattle.spec_tableaux.specs.Rows.{Row, Pivot, coefficient_of, row_of, is_basic, put, minus_times, without, pivot_row, substituted_row, exchanged_row, exchanged, AreDistinct}
use Rattle.spec_tableaux.specs.SolvedForms.{AllVariables, AllRowVariables, IsSolved, IsPivot}
use Rattle.spec_tableaux.specs.CheckOverflows.{pivot_in}
use Rattle.spec_tableaux.specs.Numbers.{Number, numbers}
use Rattle.spec_tableaux.proofs.Exchanges.{row_of_basic}
use Rattle.tableau.specs.Views.{row_at, no_row, place, next_place}
use Rattle.tableau.specs.Pivots.{NewRow, changes_in, stays, with_changes, exchange_changes, AllNumbers}
use Rattle.tableau.specs.Kept.{AreOverColumns, AreNoted, IsNoted}
use Rattle.tableau.proofs.Changing.{over_at}
use Rattle.tableau.proofs.Noting.{member, is_member_of}

-- each change is what F makes of the row with its number
abbrev pub AreRight : (Row Number → Row Number) → List (Row Number) → List NewRow → Type 0
AreRight F rs [] = Unit {0}
AreRight F rs (c ∷ cs) = (c.number < length rs) × (c.row ≡ F (row_at rs c.number)) × AreRight F rs cs

-- a change has the number
abbrev pub has : ℕ → List NewRow → Bool
has n [] = false
has n (c ∷ cs) = (c.number == n) || has n cs

length_with : (rs : List (Row Number)) (cs : List NewRow) → length (with_changes rs cs) ≡ length rs
length_with rs [] = refl
length_with rs (c ∷ cs) = length-set (with_changes rs cs) c.number c.row ∙ length_with rs cs

-- a row after changes
pub changed_at : (F : Row Number → Row Number) (rs : List (Row Number)) (cs : List NewRow) (i : ℕ) → i < length rs → AreRight F rs cs → row_at (with_changes rs cs) i ≡ cond (has i cs) (F (row_at rs i)) (row_at rs i)
changed_at F rs [] i l r = refl
changed_at F rs (c ∷ cs) i l r = by (changed_at F rs cs i l r.2) (c.number == i) refl
  where
    by : row_at (with_changes rs cs) i ≡ cond (has i cs) (F (row_at rs i)) (row_at rs i) → (b : Bool) → (c.number == i) ≡ b
        → row_at (set (with_changes rs cs) c.number c.row) i ≡ cond (b || has i cs) (F (row_at rs i)) (row_at rs i)
    by go true e =
        let s : c.number ≡ i = grind (arith, nat_tests) in
        ap (λ z. row_at (set (with_changes rs cs) c.number c.row) z) (sym s) ∙ get_or-set_same (with_changes rs cs) c.number c.row no_row (subst (λ n. c.number < n) (sym (length_with rs cs)) r.0)
        ∙ r.1 ∙ ap (λ z. F (row_at rs z)) s
    by go false e = get_or-set_other (with_changes rs cs) c.number i c.row no_row (λ s. absurd (grind (arith, nat_tests))) ∙ go

-- a row after F
pub mapped_at : (F : Row Number → Row Number) (rs : List (Row Number)) (i : ℕ) → i < length rs → row_at (map F rs) i ≡ F (row_at rs i)
mapped_at F [] i l = absurd (omega arith)
mapped_at F (r ∷ rs) zero l = refl
mapped_at F (r ∷ rs) (suc i) l = mapped_at F rs i (omega arith)

-- changes that leave out only what F leaves as it is come to F of all rows
pub changes_make : (F : Row Number → Row Number) (rs : List (Row Number)) (cs : List NewRow) → AreRight F rs cs → ((i : ℕ) → i < length rs → has i cs ≡ false → F (row_at rs i) ≡ row_at rs i) → with_changes rs cs ≡ map F rs
changes_make F rs cs r w = ext_get_or no_row (with_changes rs cs) (map F rs) (length_with rs cs ∙ sym (length-map rs F)) (λ i l. at i (subst (λ n. i < n) (length_with rs cs) l))
  where
    at : (i : ℕ) → i < length rs → row_at (with_changes rs cs) i ≡ row_at (map F rs) i
    at i l = changed_at F rs cs i l r ∙ by (has i cs) refl ∙ sym (mapped_at F rs i l)
      where
        by : (b : Bool) → has i cs ≡ b → cond b (F (row_at rs i)) (row_at rs i) ≡ F (row_at rs i)
        by true e = refl
        by false e = sym (w i l e)

pub right_numbers : (F : Row Number → Row Number) (rs : List (Row Number)) (cs : List NewRow) → AreRight F rs cs → AllNumbers (λ k. k < length rs) cs
right_numbers F rs [] r = tt
right_numbers F rs (c ∷ cs) r = (r.0, right_numbers F rs cs r.2)

-- the entries of the changes are over what those of the rows after F are
pub right_over : (F : Row Number → Row Number) (rs : List (Row Number)) (cs : List NewRow) (n : ℕ) → AreRight F rs cs → AllRowVariables (λ y. y < n) (map F rs) → AreOverColumns n cs
right_over F rs [] n r o = tt
right_over F rs (c ∷ cs) n r o = (
  subst (λ (q : Row Number). AllVariables (λ y. y < n) q.entries) (mapped_at F rs c.number r.0 ∙ sym r.1)
      (over_at (λ y. y < n) (map F rs) c.number (subst (λ m. c.number < m) (sym (length-map rs F)) r.0) o),
  right_over F rs cs n r.2 o,
)

-- a change's number is in the columns of the row after F
pub right_noted : (F : Row Number → Row Number) (rs : List (Row Number)) (columns : List (List ℕ)) (cs : List NewRow) (k : ℕ) → AreRight F rs cs → AreNoted columns cs → has k cs ≡ true → IsNoted columns k (F (row_at rs k)).entries
right_noted F rs columns [] k r o h = absurd (true≢false (sym h))
right_noted F rs columns (c ∷ cs) k r o h = by (right_noted F rs columns cs k r.2 o.1) (c.number == k) refl h
  where
    by : (has k cs ≡ true → IsNoted columns k (F (row_at rs k)).entries) → (b : Bool) → (c.number == k) ≡ b → (b || has k cs) ≡ true → IsNoted columns k (F (row_at rs k)).entries
    by go true e h =
        let s : c.number ≡ k = grind (arith, nat_tests) in
        subst (λ z. IsNoted columns z (F (row_at rs z)).entries) s (subst (λ (q : Row Number). IsNoted columns c.number q.entries) r.1 o.0)
    by go false e h = go h

module _ (p : Pivot Number) (rs : List (Row Number)) where
  pub changes_right : (ks : List ℕ) → ((k : ℕ) → list_any (nat_eq k) ks ≡ true → k < length rs) → AreRight (exchanged_row numbers p) rs (changes_in p rs ks)
  changes_right [] w = tt
  changes_right (k ∷ ks) w = by (changes_right ks (λ n h. w n (more n h))) (stays p (row_at rs k))
    where
      more : (n : ℕ) → list_any (nat_eq n) ks ≡ true → (nat_eq n k || list_any (nat_eq n) ks) ≡ true
      more n h = either (nat_eq n k) (list_any (nat_eq n) ks) h
        where
          either : (a b : Bool) → b ≡ true → (a || b) ≡ true
          either true b h = refl
          either false b h = h

      first : (nat_eq k k || list_any (nat_eq k) ks) ≡ true
      first = let s : nat_eq k k ≡ true = grind (arith, nat_tests) in (λ i. s i || list_any (nat_eq k) ks)

      by : AreRight (exchanged_row numbers p) rs (changes_in p rs ks) → (b : Bool)
          → AreRight (exchanged_row numbers p) rs (cond b (changes_in p rs ks) (record { number = k; row = exchanged_row numbers p (row_at rs k) } ∷ changes_in p rs ks))
      by go true = go
      by go false = (w k first, refl, go)

  -- a row of the column that is changed is among the changes
  pub has_in : (ks : List ℕ) (i : ℕ) → list_any (nat_eq i) ks ≡ true → stays p (row_at rs i) ≡ false → has i (changes_in p rs ks) ≡ true
  has_in [] i h s = absurd (true≢false (sym h))
  has_in (k ∷ ks) i h s = by (λ t. has_in ks i t s) (nat_eq i k) refl h
    where
      later : (b : Bool) → has i (changes_in p rs ks) ≡ true → has i (cond b (changes_in p rs ks) (record { number = k; row = exchanged_row numbers p (row_at rs k) } ∷ changes_in p rs ks)) ≡ true
      later true go = go
      later false go = either (k == i) (has i (changes_in p rs ks)) go
        where
          either : (a b : Bool) → b ≡ true → (a || b) ≡ true
          either true b h = refl
          either false b h = h

      here : (b : Bool) → b ≡ false → (k == i) ≡ true → has i (cond b (changes_in p rs ks) (record { number = k; row = exchanged_row numbers p (row_at rs k) } ∷ changes_in p rs ks)) ≡ true
      here true e f = absurd (true≢false e)
      here false e f = (λ j. f j || has i (changes_in p rs ks))

      by : (list_any (nat_eq i) ks ≡ true → has i (changes_in p rs ks) ≡ true) → (b : Bool) → nat_eq i k ≡ b → (b || list_any (nat_eq i) ks) ≡ true
          → has i (cond (stays p (row_at rs k)) (changes_in p rs ks) (record { number = k; row = exchanged_row numbers p (row_at rs k) } ∷ changes_in p rs ks)) ≡ true
      by go true e h =
          let same : i ≡ k = grind (arith, nat_tests) in
          here (stays p (row_at rs k)) (ap (λ z. stays p (row_at rs z)) (sym same) ∙ s) (grind (arith, nat_tests))
      by go false e h = later (stays p (row_at rs k)) (go h)

-- a row that stays is as it was after the exchange, if it is not that of the leaving variable
stays_same : (p : Pivot Number) (r : Row Number) → (r.basic == p.leaving) ≡ false → numbers.is_zero (coefficient_of numbers p.entering r.entries) ≡ true → exchanged_row numbers p r ≡ r
stays_same p r n z = ap (λ b. cond b (pivot_row numbers p) (substituted_row numbers p r)) n ∙ (λ i. record { basic = r.basic; entries = same i })
  where
    same : (substituted_row numbers p r).entries ≡ r.entries
    same = ap (λ b. cond b r.entries (put numbers p.leaving (numbers.times (coefficient_of numbers p.entering r.entries) p.factor)
        (minus_times numbers (without p.entering r.entries) (coefficient_of numbers p.entering r.entries) p.others))) z

-- a variable that is basic in the row of a number has this place
pub basic_at : (rs : List (Row Number)) (i : ℕ) → i < length rs → is_basic (row_at rs i).basic rs ≡ true
basic_at [] i l = absurd (omega arith)
basic_at (r ∷ rs) zero l = let s : (r.basic == r.basic) ≡ true = grind (arith, nat_tests) in (λ i. s i || is_basic r.basic rs)
basic_at (r ∷ rs) (suc k) l = either (r.basic == (row_at rs k).basic) (is_basic (row_at rs k).basic rs) (basic_at rs k (omega arith))
  where
    either : (a b : Bool) → b ≡ true → (a || b) ≡ true
    either true b h = refl
    either false b h = h

pub place_at : (rs : List (Row Number)) (i : ℕ) → i < length rs → AreDistinct rs → place (row_at rs i).basic rs ≡ Some i
place_at [] i l d = absurd (omega arith)
place_at (r ∷ rs) zero l d = let s : (r.basic == r.basic) ≡ true = grind (arith, nat_tests) in ap (λ b. cond b (Some 0) (next_place (place r.basic rs))) s
place_at (r ∷ rs) (suc k) l d =
    ap (λ b. cond b (Some 0) (next_place (place (row_at rs k).basic rs))) (differ (r.basic == (row_at rs k).basic) refl) ∙ ap next_place (place_at rs k (omega arith) d.1)
  where
    differ : (b : Bool) → (r.basic == (row_at rs k).basic) ≡ b → b ≡ false
    differ true e = let s : r.basic ≡ (row_at rs k).basic = grind (arith, nat_tests) in sym (basic_at rs k (omega arith)) ∙ ap (λ z. is_basic z rs) (sym s) ∙ d.0
    differ false e = refl

module _ (rs : List (Row Number)) (ks : List ℕ) (number b x : ℕ) (solved : IsSolved numbers rs) (pivot : IsPivot numbers rs b x) (at : place b rs ≡ Some number) (low : number < length rs)
    (row : row_of b rs ≡ row_at rs number) (within : (k : ℕ) → Contains ks k → k < length rs)
    (covers : (k : ℕ) → k < length rs → numbers.is_zero (coefficient_of numbers x (row_at rs k).entries) ≡ false → Contains ks k) where
  F : Row Number → Row Number
  F = exchanged_row numbers (pivot_in rs b x)

  leaving_row : pivot_row numbers (pivot_in rs b x) ≡ exchanged_row numbers (pivot_in rs b x) (row_at rs number)
  leaving_row =
      let s : (row_at rs number).basic ≡ b = ap (λ (q : Row Number). q.basic) (sym row) ∙ row_of_basic b rs in
      let t : ((row_at rs number).basic == b) ≡ true = grind (arith, nat_tests) in
      sym (ap (λ z. cond z (pivot_row numbers (pivot_in rs b x)) (substituted_row numbers (pivot_in rs b x) (row_at rs number))) t)

  pub exchange_right : AreRight (exchanged_row numbers (pivot_in rs b x)) rs (exchange_changes rs ks number b x)
  exchange_right = (low, leaving_row, changes_right (pivot_in rs b x) rs ks (λ k h. within k (member ks k h)))

  pub others_stay : (i : ℕ) → i < length rs → has i (exchange_changes rs ks number b x) ≡ false → exchanged_row numbers (pivot_in rs b x) (row_at rs i) ≡ row_at rs i
  others_stay i l h = stays_same (pivot_in rs b x) (row_at rs i) (other ((row_at rs i).basic == b) refl) (zero (numbers.is_zero (coefficient_of numbers x (row_at rs i).entries)) refl)
    where
      parts : ((number == i) ≡ false) × (has i (changes_in (pivot_in rs b x) rs ks) ≡ false)
      parts = or_parts (number == i) (has i (changes_in (pivot_in rs b x) rs ks)) h

      other : (c : Bool) → ((row_at rs i).basic == b) ≡ c → c ≡ false
      other true e =
          let s : (row_at rs i).basic ≡ b = grind (arith, nat_tests) in
          let t : number ≡ i = same_Some number i (sym at ∙ ap (λ z. place z rs) (sym s) ∙ place_at rs i l solved.distinct) in
          absurd (let k = parts.0 in grind (arith, nat_tests))
      other false e = refl

      zero : (c : Bool) → numbers.is_zero (coefficient_of numbers x (row_at rs i).entries) ≡ c → c ≡ true
      zero true e = refl
      zero false e = absurd (true≢false (sym (has_in (pivot_in rs b x) rs ks i (is_member_of ks i (covers i l e)) (or_from _ _ (other ((row_at rs i).basic == b) refl) e)) ∙ parts.1))

  pub exchange_made : with_changes rs (exchange_changes rs ks number b x) ≡ exchanged numbers b x rs
  exchange_made = changes_make (exchanged_row numbers (pivot_in rs b x)) rs (exchange_changes rs ks number b x) exchange_right others_stay
