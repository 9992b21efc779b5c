-- What holds of a tableau after an exchange.
use Rattle.std.proofs.Common.{◌≡◌, ◌≢◌, ℕ, ◌<◌, ◌==◌, Bool, true, false, cond, Option, Some, None, List, [], ◌∷◌, length, map, set, get_or, Contains, inl, inr, refl, sym, ap, ◌∙◌, subst, arith, true≢false, ◌↔◌}
use Rattle.std.proofs.lemmas.Bool.{or_parts}
use Rattle.std.proofs.lemmas.Bool.Decides.{nat_tests}
use Rattle.std.proofs.lemmas.List.{get_or-set_same, get_or-set_other, length-map, length-set}
use Rattle.spec_tableaux.specs.Spaces.{as_space}
use Rattle.spec_tableaux.specs.Rows.{Entry, Row, Pivot, coefficient_of, row_of, is_basic, negated, without, pivot_row, substituted_row, exchanged_row, exchanged, Solves}
use Rattle.spec_tableaux.specs.SolvedForms.{AllVariables, AllRowVariables, IsNonbasic, IsSolved, IsPivot}
use Rattle.spec_tableaux.specs.CheckOverflows.{pivot_in}
use Rattle.spec_tableaux.specs.Numbers.{Number, numbers}
use Rattle.spec_tableaux.proofs.Numbers.{numbers_are_ordered_field}
use Rattle.spec_tableaux.proofs.Exchanges.{exchange_keeps}
use Rattle.spec_tableaux.proofs.SolvedForms.{apart, exchange_solved, nonbasic_after, over_after, over_row, over_put, over_negated, over_quotients, over_without, over_more, tidy_row}
use Rattle.tableau.specs.Views.{IsTableau, row_at, place, next_place}
use Rattle.tableau.specs.Kept.{column_at, AreColumns, ArePlaces, HasGrown, AreNoted}
use Rattle.tableau.specs.Pivots.{exchange_changes}
use Rattle.tableau.proofs.Places.{IsPlaced, placed}
use Rattle.tableau.proofs.Changing.{over_at}
use Rattle.tableau.proofs.Readying.{number_space}
use Rattle.tableau.proofs.Exchanging.{has, mapped_at, right_noted, exchange_right, others_stay}
use Rattle.tableau.proofs.Noting.{by_column}

pub columns_grown : (rs : List (Row Number)) (a b : List (List ℕ)) → AreColumns rs a → HasGrown (λ k. k < length rs) a b → AreColumns rs b
columns_grown rs a b c g = record {
  covers = λ y k l z. g.kept y k (c.covers y k l z);
  within = λ y k i. elim (g.others y k i) [ inl o ↦ c.within y k o | inr n ↦ n ];
}

-- p holds of a variable whose coefficient is not 0
pub over_entry : (p : ℕ → Type 0) (es : List (Entry Number)) (y : ℕ) → AllVariables p es → numbers.is_zero (coefficient_of numbers y es) ≡ false → p y
over_entry p [] y o z = absurd (true≢false (sym numbers_are_ordered_field.zero_is_zero ∙ z))
over_entry p (e ∷ es) y o z = by (over_entry p es y o.1) (e.variable == y) refl z
  where
    by : (numbers.is_zero (coefficient_of numbers y es) ≡ false → p y) → (b : Bool) → (e.variable == y) ≡ b → numbers.is_zero (cond b e.coefficient (coefficient_of numbers y es)) ≡ false → p y
    by go true f z = let s : e.variable ≡ y = grind (arith, nat_tests) in subst p s o.0
    by go false f z = go z

module _ (n : ℕ) (listed rs : List (Row Number)) (b x : ℕ) (t : IsTableau (record { variables = n; listed = listed; rows = rs })) (h : IsPivot numbers rs b x) where
  below : ℕ → Type 0
  below y = y < n

  pub entering_low : x < n
  entering_low = over_entry (λ y. y < n) (row_of b rs).entries x (over_row (λ y. y < n) b rs t.entries_below) h.entry

  pub leaving_low : b < n
  leaving_low = t.basics_below b h.basic

  basics_after : (y : ℕ) → is_basic y (exchanged numbers b x rs) ≡ true → y < n
  basics_after y m = by (y == x) refl
    where
      at : (c : Bool) → is_basic y rs ≡ c → (x == y) ≡ false → y < n
      at true e f = t.basics_below y e
      at false e f = absurd (true≢false (sym m ∙ nonbasic_after (as_space numbers) (pivot_in rs b x) y rs e f))

      by : (c : Bool) → (y == x) ≡ c → y < n
      by true e = let s : x ≡ y = grind (arith, nat_tests) in subst (λ z. z < n) s entering_low
      by false e = at (is_basic y rs) refl (grind (arith, nat_tests))

  others_below : AllVariables (λ y. y < n) (pivot_in rs b x).others
  others_below = over_quotients (as_space numbers) (λ y. y < n) (coefficient_of numbers x (row_of b rs).entries) (without x (row_of b rs).entries)
      (over_more (λ y. (y < n) × ((y == x) ≡ false)) (λ y. y < n) (without x (row_of b rs).entries) (λ y o. o.0)
      (over_without (as_space numbers) (λ y. y < n) 0 x (row_of b rs).entries (tidy_row (as_space numbers) b rs t.solved.tidy) (over_row (λ y. y < n) b rs t.entries_below)))

  pub entries_after : AllRowVariables (λ y. y < n) (exchanged numbers b x rs)
  entries_after = over_after (as_space numbers) number_space (λ y. y < n) (λ y. y < n) (pivot_in rs b x) rs (record { stay = λ y l e. l; leave = leaving_low; others = others_below }) t.solved.tidy t.entries_below
      (over_put (as_space numbers) (λ y. y < n) b (pivot_in rs b x).factor (negated numbers (pivot_in rs b x).others) leaving_low (over_negated (as_space numbers) (λ y. y < n) (pivot_in rs b x).others others_below))

  pub solutions_after : (v : ℕ → Number) → Solves (as_space numbers) v (exchanged numbers b x rs) ↔ Solves (as_space numbers) v rs
  solutions_after v = exchange_keeps (as_space numbers) number_space v b x rs t.solved.distinct h.basic h.entry

  pub tableau_after : IsTableau (record { variables = n; listed = listed; rows = exchanged numbers b x rs })
  tableau_after = record {
    solved = exchange_solved (as_space numbers) number_space b x rs t.solved h.basic h.nonbasic h.entry;
    basics_below = basics_after;
    entries_below = entries_after;
    same = λ v. (λ s. (t.same v).0 ((solutions_after v).0 s), λ s. (solutions_after v).1 ((t.same v).1 s));
  }

module _ (p : Pivot Number) where
  -- the basic variable of a row after the exchange
  basic_after : (r : Row Number) → (exchanged_row numbers p r).basic ≡ cond (r.basic == p.leaving) p.entering r.basic
  basic_after r = by (r.basic == p.leaving)
    where
      by : (c : Bool) → (cond c (pivot_row numbers p) (substituted_row numbers p r)).basic ≡ cond c p.entering r.basic
      by true = refl
      by false = refl

  -- a place, where the test at each row is another's
  head_place : (y : ℕ) (r : Row Number) (c : Bool) (o u : Option ℕ) → (cond (r.basic == p.leaving) p.entering r.basic == y) ≡ c → o ≡ u → cond ((exchanged_row numbers p r).basic == y) (Some 0) (next_place o) ≡ cond c (Some 0) (next_place u)
  head_place y r c o u e w = (λ i. cond ((ap (λ z. z == y) (basic_after r) ∙ e) i) (Some 0) (next_place (w i)))

  place_others : (y : ℕ) → (y == p.entering) ≡ false → (y == p.leaving) ≡ false → (rs : List (Row Number)) → place y (map (exchanged_row numbers p) rs) ≡ place y rs
  place_others y e f [] = refl
  place_others y e f (r ∷ rs) = head_place y r (r.basic == y) (place y (map (exchanged_row numbers p) rs)) (place y rs) (by (r.basic == p.leaving) refl) (place_others y e f rs)
    where
      by : (c : Bool) → (r.basic == p.leaving) ≡ c → (cond c p.entering r.basic == y) ≡ (r.basic == y)
      by true g =
          let s : r.basic ≡ p.leaving = grind (arith, nat_tests) in
          let q : (p.entering == y) ≡ false = grind (arith, nat_tests) in
          let u : (p.leaving == y) ≡ false = grind (arith, nat_tests) in
          q ∙ sym (ap (λ z. z == y) s ∙ u)
      by false g = refl

  place_entering : (rs : List (Row Number)) → is_basic p.entering rs ≡ false → place p.entering (map (exchanged_row numbers p) rs) ≡ place p.leaving rs
  place_entering [] n = refl
  place_entering (r ∷ rs) n =
      head_place p.entering r (r.basic == p.leaving) (place p.entering (map (exchanged_row numbers p) rs)) (place p.leaving rs) (by (r.basic == p.leaving)) (place_entering rs (or_parts (r.basic == p.entering) (is_basic p.entering rs) n).1)
    where
      by : (c : Bool) → (cond c p.entering r.basic == p.entering) ≡ c
      by true = grind (arith, nat_tests)
      by false = (or_parts (r.basic == p.entering) (is_basic p.entering rs) n).0

  place_leaving : (p.entering == p.leaving) ≡ false → (rs : List (Row Number)) → place p.leaving (map (exchanged_row numbers p) rs) ≡ None
  place_leaving a [] = refl
  place_leaving a (r ∷ rs) = head_place p.leaving r false (place p.leaving (map (exchanged_row numbers p) rs)) None (by (r.basic == p.leaving) refl) (place_leaving a rs)
    where
      by : (c : Bool) → (r.basic == p.leaving) ≡ c → (cond c p.entering r.basic == p.leaving) ≡ false
      by true g = a
      by false g = g

module _ (rs : List (Row Number)) (ks : List ℕ) (number b x : ℕ) (solved : IsSolved numbers rs) (pivot : IsPivot numbers rs b x) (at : place b rs ≡ Some number) where
  pub places_after : (places : List (Option ℕ)) → ArePlaces rs places → b < length places → x < length places → ArePlaces (exchanged numbers b x rs) (set (set places b None) x (Some number))
  places_after places h l m y = by (y == x) refl
    where
      differ : (x == b) ≡ false
      differ = apart b x rs pivot.basic pivot.nonbasic

      other : (c : Bool) → (y == b) ≡ c → (y == x) ≡ false → get_or (set places b None) y None ≡ place y (exchanged numbers b x rs)
      other true e f =
          let s : y ≡ b = grind (arith, nat_tests) in
          ap (λ z. get_or (set places b None) z None) s ∙ get_or-set_same places b None None l ∙ sym (place_leaving (pivot_in rs b x) differ rs) ∙ ap (λ z. place z (exchanged numbers b x rs)) (sym s)
      other false e f = get_or-set_other places b y None None (λ s. absurd (grind (arith, nat_tests))) ∙ h y ∙ sym (place_others (pivot_in rs b x) y f e rs)

      by : (c : Bool) → (y == x) ≡ c → get_or (set (set places b None) x (Some number)) y None ≡ place y (exchanged numbers b x rs)
      by true e =
          let s : y ≡ x = grind (arith, nat_tests) in
          ap (λ z. get_or (set (set places b None) x (Some number)) z None) s ∙ get_or-set_same (set places b None) x (Some number) None (subst (λ n. x < n) (sym (length-set places b None)) m)
          ∙ sym at ∙ sym (place_entering (pivot_in rs b x) rs pivot.nonbasic) ∙ ap (λ z. place z (exchanged numbers b x rs)) (sym s)
      by false e = get_or-set_other (set places b None) x y (Some number) None (λ s. absurd (grind (arith, nat_tests))) ∙ other (y == b) refl e

  entering_basic : is_basic x (exchanged numbers b x rs) ≡ true
  entering_basic = (subst (IsPlaced x (exchanged numbers b x rs)) (place_entering (pivot_in rs b x) rs pivot.nonbasic ∙ at) (placed x (exchanged numbers b x rs))).1

  module _ (low : number < length rs) (row : row_of b rs ≡ row_at rs number) (within : (k : ℕ) → Contains ks k → k < length rs)
      (covers : (k : ℕ) → k < length rs → numbers.is_zero (coefficient_of numbers x (row_at rs k).entries) ≡ false → Contains ks k) where
    pub columns_after : (old mid : List (List ℕ)) → AreColumns rs old → HasGrown (λ k. k < length rs) old mid → AreNoted mid (exchange_changes rs ks number b x) → x < length mid → IsSolved numbers (exchanged numbers b x rs)
        → AreColumns (exchanged numbers b x rs) (set mid x [])
    columns_after old mid c g n m after = record {
      covers = by_column (λ y ns. (k : ℕ) → k < length (exchanged numbers b x rs) → numbers.is_zero (coefficient_of numbers y (row_at (exchanged numbers b x rs) k).entries) ≡ false → Contains ns k) mid x [] m none others;
      within = λ y k i. subst (λ z. k < z) (sym same_length) (by_column (λ y ns. (k : ℕ) → Contains ns k → k < length rs) mid x [] m (λ k i. absurd (omega (arith, i.1))) (λ y q k i. grown.within y k i) y k i);
    }
      where
        same_length : length (exchanged numbers b x rs) ≡ length rs
        same_length = length-map rs (exchanged_row numbers (pivot_in rs b x))

        grown : AreColumns rs mid
        grown = columns_grown rs old mid c g

        none : (k : ℕ) → k < length (exchanged numbers b x rs) → numbers.is_zero (coefficient_of numbers x (row_at (exchanged numbers b x rs) k).entries) ≡ false → Contains [] k
        none k l z = absurd (true≢false (sym entering_basic ∙ over_entry (IsNonbasic (exchanged numbers b x rs)) (row_at (exchanged numbers b x rs) k).entries x (over_at (IsNonbasic (exchanged numbers b x rs)) (exchanged numbers b x rs) k l after.nonbasic) z))

        others : (y : ℕ) → y ≢ x → (k : ℕ) → k < length (exchanged numbers b x rs) → numbers.is_zero (coefficient_of numbers y (row_at (exchanged numbers b x rs) k).entries) ≡ false → Contains (column_at mid y) k
        others y q k l z = by (has k (exchange_changes rs ks number b x)) refl
          where
            within_rs : k < length rs
            within_rs = subst (λ w. k < w) same_length l

            here : numbers.is_zero (coefficient_of numbers y (exchanged_row numbers (pivot_in rs b x) (row_at rs k)).entries) ≡ false
            here = subst (λ (r : Row Number). numbers.is_zero (coefficient_of numbers y r.entries) ≡ false) (mapped_at (exchanged_row numbers (pivot_in rs b x)) rs k within_rs) z

            by : (d : Bool) → has k (exchange_changes rs ks number b x) ≡ d → Contains (column_at mid y) k
            by true e = over_entry (λ w. Contains (column_at mid w) k) (exchanged_row numbers (pivot_in rs b x) (row_at rs k)).entries y
                (right_noted (exchanged_row numbers (pivot_in rs b x)) rs mid (exchange_changes rs ks number b x) k (exchange_right rs ks number b x solved pivot at low row within covers) n e) here
            by false e = grown.covers y k within_rs
                (subst (λ (r : Row Number). numbers.is_zero (coefficient_of numbers y r.entries) ≡ false) (others_stay rs ks number b x solved pivot at low row within covers k within_rs e) here)
