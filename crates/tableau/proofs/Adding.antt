-- A variable more, or a row.
use Rattle.std.proofs.Common.{◌≡◌, ◌≢◌, ℕ, zero, suc, ◌<◌, ◌==◌, Bool, true, false, cond, Option, Some, None, List, [], ◌∷◌, ◌++◌, length, get_or, Contains, inl, inr, refl, sym, ap, ◌∙◌, subst, arith, true≢false}
use Rattle.std.proofs.lemmas.Bool.{or_parts}
use Rattle.std.proofs.lemmas.Bool.Decides.{nat_tests}
use Rattle.std.proofs.lemmas.List.{length-map, length-append, get_or_past, get_or_push}
use Rattle.spec_tableaux.specs.Spaces.{as_space}
use Rattle.spec_tableaux.specs.Rows.{Entry, Row, coefficient_of, is_basic, flattened, with_row}
use Rattle.spec_tableaux.specs.SolvedForms.{AllVariables, IsNonbasic}
use Rattle.spec_tableaux.specs.Numbers.{Number, numbers}
use Rattle.spec_tableaux.proofs.SolvedForms.{over_more}
use Rattle.spec_tableaux.proofs.Growing.{row_added, added_solved, solves_more, over_flattened, over_rows, nonbasic_more}
use Rattle.tableau.specs.declared.entries.Row.{Row as CodeRow}
use Rattle.tableau.specs.declared.table.Tableau.TheInside.{Inside}
use Rattle.tableau.specs.Entries.{row_meant, rows_of}
use Rattle.tableau.specs.Views.{IsTableau, with_sum, row_at, no_row, place, next_place}
use Rattle.tableau.specs.Kept.{column_at, TableauFits, AreColumns, ArePlaces, HasGrown, IsNoted, Forgets}
use Rattle.tableau.proofs.Readying.{number_space, are_over_more}
use Rattle.tableau.proofs.Keeping.{over_entry}

below_apart : (n y : ℕ) → y < n → (y == n) ≡ false
below_apart n y l = grind (arith, nat_tests)

-- a variable more
pub variable_added : (n : ℕ) (listed rs : List (Row Number)) → IsTableau (record { variables = n; listed = listed; rows = rs }) → IsTableau (record { variables = suc n; listed = listed; rows = rs })
variable_added n listed rs t = record {
  solved = t.solved;
  basics_below = λ b h. let l = t.basics_below b h in omega (arith, l);
  entries_below = are_over_more (λ y. y < n) (λ y. y < suc n) rs (λ y l. omega (arith, l)) t.entries_below;
  same = t.same;
}

module _ (n : ℕ) (listed rs : List (Row Number)) (es : List (Entry Number)) (t : IsTableau (record { variables = n; listed = listed; rows = rs })) (low : AllVariables (λ y. y < n) es) where
  new_row : Row Number
  new_row = record { basic = n; entries = flattened numbers rs [] es }

  pub flattened_below : AllVariables (λ y. y < n) (flattened numbers rs [] es)
  flattened_below = over_flattened (as_space numbers) (λ y. y < n) rs [] es t.entries_below (over_more (λ y. y < n) (λ y. IsNonbasic rs y → y < n) es (λ y l k. l) low) tt

  pub new_nonbasic : is_basic n rs ≡ false
  new_nonbasic = by (is_basic n rs) refl
    where
      by : (c : Bool) → is_basic n rs ≡ c → c ≡ false
      by true e = let l = t.basics_below n e in absurd (omega (arith, l))
      by false e = refl

  pub sum_added : IsTableau (with_sum (record { variables = n; listed = listed; rows = rs }) es)
  sum_added = record {
    solved = added_solved (as_space numbers) rs n es t.solved new_nonbasic (are_over_more (λ y. y < n) (λ y. (y == n) ≡ false) rs (below_apart n) t.entries_below) (over_more (λ y. y < n) (λ y. (y == n) ≡ false) es (below_apart n) low);
    basics_below = basics;
    entries_below = over_rows (λ y. y < n) (λ y. y < suc n) rs (record { basic = n; entries = flattened numbers rs [] es }) (λ y l. omega (arith, l)) t.entries_below flattened_below;
    same = λ v. (
      λ s. let k = (row_added (as_space numbers) number_space v rs n es).0 s in (solves_more (as_space numbers) v listed (record { basic = n; entries = es })).1 ((t.same v).0 k.0, record { is = k.1 }),
      λ s. let k = (solves_more (as_space numbers) v listed (record { basic = n; entries = es })).0 s in (row_added (as_space numbers) number_space v rs n es).1 ((t.same v).1 k.0, k.1.is),
    );
  }
    where
      basics : (b : ℕ) → is_basic b (with_row numbers rs n es) ≡ true → b < suc n
      basics b h = by (n == b) (is_basic b rs) refl refl
        where
          by : (c d : Bool) → (n == b) ≡ c → is_basic b rs ≡ d → b < suc n
          by true d e f = let s : n ≡ b = grind (arith, nat_tests) in omega arith
          by false true e f = let l = t.basics_below b f in omega (arith, l)
          by false false e f = absurd (true≢false (sym h ∙ nonbasic_more b rs (record { basic = n; entries = flattened numbers rs [] es }) f e))

-- places with a row more
place_same : (y : ℕ) (rs : List (Row Number)) (r : Row Number) → (r.basic == y) ≡ false → place y (rs ++ r ∷ []) ≡ place y rs
place_same y [] r e = ap (λ b. cond b (Some 0) None) e
place_same y (q ∷ rs) r e = ap (λ z. cond (q.basic == y) (Some 0) (next_place z)) (place_same y rs r e)

place_last : (y : ℕ) (rs : List (Row Number)) (r : Row Number) → (r.basic == y) ≡ true → is_basic y rs ≡ false → place y (rs ++ r ∷ []) ≡ Some (length rs)
place_last y [] r e h = ap (λ b. cond b (Some 0) None) e
place_last y (q ∷ rs) r e h =
    let p = or_parts (q.basic == y) (is_basic y rs) h in
    ap (λ b. cond b (Some 0) (next_place (place y (rs ++ r ∷ [])))) p.0 ∙ ap next_place (place_last y rs r e p.1)

-- reading a list that has one more last
at_more : {A : Type 0} (xs : List A) (x d : A) (k : ℕ) → k ≢ length xs → get_or (xs ++ x ∷ []) k d ≡ get_or xs k d
at_more [] x d zero n = absurd (n refl)
at_more [] x d (suc k) n = refl
at_more (y ∷ xs) x d zero n = refl
at_more (y ∷ xs) x d (suc k) n = at_more xs x d k (λ e. n (ap suc e))

pub places_added : (rs : List (Row Number)) (places : List (Option ℕ)) (r : Row Number) (number : ℕ) → ArePlaces rs places → r.basic ≡ length places → is_basic r.basic rs ≡ false → number ≡ length rs → ArePlaces (rs ++ r ∷ []) (places ++ Some number ∷ [])
places_added rs places r number a b f e y = by (r.basic == y) refl
  where
    by : (c : Bool) → (r.basic == y) ≡ c → get_or (places ++ Some number ∷ []) y None ≡ place y (rs ++ r ∷ [])
    by true g =
        let s : r.basic ≡ y = grind (arith, nat_tests) in
        get_or_push places (Some number) None y (sym b ∙ s) ∙ ap Some e ∙ sym (place_last y rs r g (subst (λ z. is_basic z rs ≡ false) s f))
    by false g = at_more places (Some number) None y (λ q. absurd (let w : r.basic ≡ y = b ∙ sym q in grind (arith, nat_tests))) ∙ a y ∙ sym (place_same y rs r g)

pub places_one_more : (rs : List (Row Number)) (places : List (Option ℕ)) → ArePlaces rs places → ArePlaces rs (places ++ None ∷ [])
places_one_more rs places a y = by (y == length places) refl
  where
    by : (c : Bool) → (y == length places) ≡ c → get_or (places ++ None ∷ []) y None ≡ place y rs
    by true g =
        let s : length places ≡ y = grind (arith, nat_tests) in
        get_or_push places None None y s ∙ sym (get_or_past places y None (omega arith)) ∙ a y
    by false g = at_more places None None y (λ q. absurd (grind (arith, nat_tests))) ∙ a y

-- an empty column more
column_more : (columns : List (List ℕ)) (y : ℕ) → column_at (columns ++ [] ∷ []) y ≡ column_at columns y
column_more columns y = by (y == length columns) refl
  where
    by : (c : Bool) → (y == length columns) ≡ c → column_at (columns ++ [] ∷ []) y ≡ column_at columns y
    by true g = let s : length columns ≡ y = grind (arith, nat_tests) in get_or_push columns [] [] y s ∙ sym (get_or_past columns y [] (omega arith))
    by false g = at_more columns [] [] y (λ q. absurd (grind (arith, nat_tests)))

pub columns_one_more : (rs : List (Row Number)) (columns : List (List ℕ)) → AreColumns rs columns → AreColumns rs (columns ++ [] ∷ [])
columns_one_more rs columns a = record {
  covers = λ y k l z. subst (λ q. Contains q k) (sym (column_more columns y)) (a.covers y k l z);
  within = λ y k c. a.within y k (subst (λ q. Contains q k) (column_more columns y) c);
}

pub columns_added : (rs : List (Row Number)) (old mid : List (List ℕ)) (r : Row Number) (number : ℕ) → AreColumns rs old → HasGrown (λ k. k ≡ number) old mid → IsNoted mid number r.entries → number ≡ length rs → AreColumns (rs ++ r ∷ []) mid
columns_added rs old mid r number a g n e = record { covers = covers; within = within }
  where
    more : length (rs ++ r ∷ []) ≡ suc (length rs)
    more = let k = length-append rs (r ∷ []) in omega (arith, k)

    covers : (y k : ℕ) → k < length (rs ++ r ∷ []) → numbers.is_zero (coefficient_of numbers y (row_at (rs ++ r ∷ []) k).entries) ≡ false → Contains (column_at mid y) k
    covers y k l z = by (k == length rs) refl
      where
        by : (c : Bool) → (k == length rs) ≡ c → Contains (column_at mid y) k
        by true f =
            let s : k ≡ length rs = grind (arith, nat_tests) in
            subst (λ w. Contains (column_at mid y) w) (e ∙ sym s) (over_entry (λ w. Contains (column_at mid w) number) r.entries y n
            (subst (λ (q : Row Number). numbers.is_zero (coefficient_of numbers y q.entries) ≡ false) (get_or_push rs r no_row k (sym s)) z))
        by false f =
            let d : k ≢ length rs = λ q. absurd (grind (arith, nat_tests)) in
            let low : k < length rs = omega (arith, d, more) in
            g.kept y k (a.covers y k low (subst (λ (q : Row Number). numbers.is_zero (coefficient_of numbers y q.entries) ≡ false) (at_more rs r no_row k d) z))

    within : (y k : ℕ) → Contains (column_at mid y) k → k < length (rs ++ r ∷ [])
    within y k c = elim (g.others y k c) [ inl o ↦ (let l = a.within y k o in omega (arith, l, more)) | inr s ↦ omega (arith, more) ]

-- the number of a row that did not come went out again
pub columns_back : (rs : List (Row Number)) (old mid new : List (List ℕ)) (number : ℕ) → AreColumns rs old → HasGrown (λ k. k ≡ number) old mid → Forgets number mid new → number ≡ length rs → AreColumns rs new
columns_back rs old mid new number a g f e = record {
  covers = λ y k l z. f.kept y k (λ s. absurd (omega (arith, l))) (g.kept y k (a.covers y k l z));
  within = λ y k c. let o = f.others y k c in elim (g.others y k o.0) [ inl h ↦ a.within y k h | inr s ↦ absurd (o.1 s) ];
}

module _ (i : Inside) (kept : TableauFits i) where
  -- a variable more
  pub kept_variable : (j : Inside) → j.listed.items ≡ i.listed.items → j.rows.items ≡ i.rows.items → j.places.items ≡ i.places.items ++ None ∷ [] → j.columns.items ≡ i.columns.items ++ [] ∷ [] → TableauFits j
  kept_variable j l r p c =
      let count : length j.places.items ≡ suc (length i.places.items) = let k = length-append i.places.items (None ∷ []) in let w = ap length p in omega (arith, k, w) in
      record {
        rows = subst IsTableau (λ k. record { variables = sym count k; listed = rows_of (sym l k); rows = rows_of (sym r k) }) (variable_added (length i.places.items) (rows_of i.listed.items) (rows_of i.rows.items) kept.rows);
        places = subst (λ (z : List CodeRow). ArePlaces (rows_of z) j.places.items) (sym r) (subst (ArePlaces (rows_of i.rows.items)) (sym p) (places_one_more (rows_of i.rows.items) i.places.items kept.places));
        count = (let k = length-append i.columns.items ([] ∷ []) in let w = ap length c in let u = kept.count in omega (arith, k, w, u, count));
        columns = subst (λ (z : List CodeRow). AreColumns (rows_of z) j.columns.items) (sym r) (subst (AreColumns (rows_of i.rows.items)) (sym c) (columns_one_more (rows_of i.rows.items) i.columns.items kept.columns));
      }

  -- where there was no memory for a column
  pub kept_back : (number : ℕ) → number ≡ length i.rows.items → (mid : List (List ℕ)) → HasGrown (λ k. k ≡ number) i.columns.items mid
      → (j : Inside) → j.listed.items ≡ i.listed.items → j.rows.items ≡ i.rows.items → j.places.items ≡ i.places.items → Forgets number mid j.columns.items → TableauFits j
  kept_back number e mid g j l r p f = record {
    rows = subst IsTableau (λ k. record { variables = length (sym p k); listed = rows_of (sym l k); rows = rows_of (sym r k) }) kept.rows;
    places = subst (λ (z : List CodeRow). ArePlaces (rows_of z) j.places.items) (sym r) (subst (ArePlaces (rows_of i.rows.items)) (sym p) kept.places);
    count = f.count ∙ g.count ∙ kept.count ∙ sym (ap length p);
    columns = subst (λ (z : List CodeRow). AreColumns (rows_of z) j.columns.items) (sym r)
        (columns_back (rows_of i.rows.items) i.columns.items mid j.columns.items number kept.columns g f (e ∙ sym (length-map i.rows.items row_meant)));
  }

  module _ (number basic : ℕ) (entries made : List (Entry Number)) (e : number ≡ length i.rows.items) (b : basic ≡ length i.places.items) (low : AllVariables (λ y. y < length i.places.items) entries)
      (is : made ≡ flattened numbers (rows_of i.rows.items) [] entries) where
    pub made_below : AllVariables (λ y. y < length i.columns.items) made
    made_below = subst (AllVariables (λ y. y < length i.columns.items)) (sym is) (subst (λ n. AllVariables (λ y. y < n) (flattened numbers (rows_of i.rows.items) [] entries)) (sym kept.count)
        (flattened_below (length i.places.items) (rows_of i.listed.items) (rows_of i.rows.items) entries kept.rows low))

    -- a row more
    pub kept_row : (mid : List (List ℕ)) → HasGrown (λ k. k ≡ number) i.columns.items mid → IsNoted mid number made → (j : Inside)
        → rows_of j.listed.items ≡ rows_of i.listed.items ++ record { basic = basic; entries = entries } ∷ [] → rows_of j.rows.items ≡ rows_of i.rows.items ++ record { basic = basic; entries = made } ∷ []
        → j.places.items ≡ i.places.items ++ Some number ∷ [] → j.columns.items ≡ mid ++ [] ∷ [] → TableauFits j
    kept_row mid g n j l r p c =
        let rs = rows_of i.rows.items in
        let new : Row Number = record { basic = basic; entries = made } in
        let count : length j.places.items ≡ suc (length i.places.items) = let k = length-append i.places.items (Some number ∷ []) in let w = ap length p in omega (arith, k, w) in
        let last : number ≡ length rs = e ∙ sym (length-map i.rows.items row_meant) in
        let absent : is_basic basic rs ≡ false = subst (λ z. is_basic z rs ≡ false) (sym b) (new_nonbasic (length i.places.items) (rows_of i.listed.items) rs entries kept.rows low) in
        record {
          rows = subst IsTableau (λ k. record { variables = sym count k; listed = sym (l ∙ (λ m. rows_of i.listed.items ++ record { basic = b m; entries = entries } ∷ [])) k; rows = sym (r ∙ (λ m. rs ++ record { basic = b m; entries = is m } ∷ [])) k })
              (sum_added (length i.places.items) (rows_of i.listed.items) rs entries kept.rows low);
          places = subst (λ z. ArePlaces z j.places.items) (sym r) (subst (ArePlaces (rs ++ new ∷ [])) (sym p) (places_added rs i.places.items new number kept.places b absent last));
          count = (let k = length-append mid ([] ∷ []) in let w = ap length c in let u = kept.count in let v = g.count in omega (arith, k, w, u, v, count));
          columns = subst (λ z. AreColumns z j.columns.items) (sym r) (subst (AreColumns (rs ++ new ∷ [])) (sym c) (columns_one_more (rs ++ new ∷ []) mid (columns_added rs i.columns.items mid new number kept.columns g n last)));
        }
