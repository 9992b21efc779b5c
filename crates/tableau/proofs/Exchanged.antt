-- The fields of a tableau before and after an exchange.
use Rattle.std.proofs.Common.{◌≡◌, ℕ, ◌<◌, Some, None, List, [], length, set, true, false, Contains, sym, ap, ◌∙◌, subst, ◌↔◌}
use Rattle.std.proofs.lemmas.List.{length-map, length-set}
use Rattle.spec_tableaux.specs.Spaces.{as_space}
use Rattle.spec_tableaux.specs.Rows.{Row, coefficient_of, row_of, is_basic, exchanged, exchanged_row, Solves}
use Rattle.spec_tableaux.specs.SolvedForms.{IsPivot}
use Rattle.spec_tableaux.specs.CheckOverflows.{pivot_in}
use Rattle.spec_tableaux.specs.Numbers.{Number, numbers}
use Rattle.tableau.specs.declared.entries.Row.{Row as CodeRow}
use Rattle.tableau.specs.declared.table.Tableau.TheInside.{Inside}
use Rattle.tableau.specs.Entries.{row_meant, rows_of}
use Rattle.tableau.specs.Views.{TableauView, IsTableau, with_exchange, row_at, place}
use Rattle.tableau.specs.Kept.{column_at, tableau_view, TableauFits, AreColumns, ArePlaces, HasGrown, AreNoted, AreOverColumns}
use Rattle.tableau.specs.Pivots.{NewRow, exchange_changes, with_changes, AllNumbers}
use Rattle.tableau.proofs.Exchanging.{exchange_right, exchange_made, right_numbers, right_over}
use Rattle.tableau.proofs.Keeping.{columns_grown, entering_low, leaving_low, entries_after, solutions_after, tableau_after, places_after, columns_after}

-- A tableau, and the row of the variable that leaves.
pub record Leaving (i : Inside) (now : TableauView) (b x number : ℕ) : Type 0 where
  pub is : tableau_view i ≡ now
  pub kept : TableauFits i
  pub pivot : IsPivot numbers now.rows b x
  pub at : Some number ≡ place b now.rows
  pub there : (number < length now.rows) × (is_basic b now.rows ≡ true) × (row_of b now.rows ≡ row_at now.rows number)

module _ (i : Inside) (now : TableauView) (b x number : ℕ) (w : Leaving i now b x number) where
  rows_is : now.rows ≡ rows_of i.rows.items
  rows_is = sym (ap (λ (t : TableauView). t.rows) w.is)

  pub pivot_here : IsPivot numbers (rows_of i.rows.items) b x
  pivot_here = subst (λ rs. IsPivot numbers rs b x) rows_is w.pivot

  at_here : place b (rows_of i.rows.items) ≡ Some number
  at_here = subst (λ rs. place b rs ≡ Some number) rows_is (sym w.at)

  low_here : number < length (rows_of i.rows.items)
  low_here = subst (λ (rs : List (Row Number)). number < length rs) rows_is w.there.0

  row_here : row_of b (rows_of i.rows.items) ≡ row_at (rows_of i.rows.items) number
  row_here = subst (λ rs. row_of b rs ≡ row_at rs number) rows_is w.there.2

  pub x_low : x < length i.columns.items
  x_low = subst (λ n. x < n) (sym w.kept.count) (entering_low (length i.places.items) (rows_of i.listed.items) (rows_of i.rows.items) b x w.kept.rows pivot_here)

  module _ (ks : List ℕ) (column : ks ≡ column_at i.columns.items x) where
    within : (k : ℕ) → Contains ks k → k < length (rows_of i.rows.items)
    within k c = w.kept.columns.within x k (subst (λ z. Contains z k) column c)

    pub within_items : (items : List CodeRow) → items ≡ i.rows.items → (k : ℕ) → Contains ks k → k < length items
    within_items items e k c = subst (λ (z : List CodeRow). k < length z) (sym e) (subst (λ n. k < n) (length-map i.rows.items row_meant) (within k c))

    covers : (k : ℕ) → k < length (rows_of i.rows.items) → numbers.is_zero (coefficient_of numbers x (row_at (rows_of i.rows.items) k).entries) ≡ false → Contains ks k
    covers k l z = subst (λ q. Contains q k) (sym column) (w.kept.columns.covers x k l z)

    module _ (cs : List NewRow) (made : cs ≡ exchange_changes (rows_of i.rows.items) ks number b x) where
      pub made_over : AreOverColumns (length i.columns.items) cs
      made_over = subst (AreOverColumns (length i.columns.items)) (sym made) (subst (λ n. AreOverColumns n (exchange_changes (rows_of i.rows.items) ks number b x)) (sym w.kept.count)
          (right_over (exchanged_row numbers (pivot_in (rows_of i.rows.items) b x)) (rows_of i.rows.items) (exchange_changes (rows_of i.rows.items) ks number b x) (length i.places.items)
          (exchange_right (rows_of i.rows.items) ks number b x w.kept.rows.solved pivot_here at_here low_here row_here within covers)
          (entries_after (length i.places.items) (rows_of i.listed.items) (rows_of i.rows.items) b x w.kept.rows pivot_here)))

      numbered : AllNumbers (λ k. k < length (rows_of i.rows.items)) cs
      numbered = subst (AllNumbers (λ k. k < length (rows_of i.rows.items))) (sym made)
          (right_numbers (exchanged_row numbers (pivot_in (rows_of i.rows.items) b x)) (rows_of i.rows.items) (exchange_changes (rows_of i.rows.items) ks number b x)
          (exchange_right (rows_of i.rows.items) ks number b x w.kept.rows.solved pivot_here at_here low_here row_here within covers))

      pub made_numbered : AllNumbers (λ k. k < length i.rows.items) cs
      made_numbered = subst (λ n. AllNumbers (λ k. k < n) cs) (length-map i.rows.items row_meant) numbered

      module _ (mid : List (List ℕ)) (grown : (n : ℕ) → AllNumbers (λ k. k < n) cs → HasGrown (λ k. k < n) i.columns.items mid) where
        grown_here : HasGrown (λ k. k < length (rows_of i.rows.items)) i.columns.items mid
        grown_here = grown (length (rows_of i.rows.items)) numbered

        -- where there was no memory
        pub kept_still : (j : Inside) → j.listed.items ≡ i.listed.items → j.rows.items ≡ i.rows.items → j.places.items ≡ i.places.items → j.columns.items ≡ mid → TableauFits j
        kept_still j l r p c = record {
          rows = subst IsTableau (λ k. record { variables = length (sym p k); listed = rows_of (sym l k); rows = rows_of (sym r k) }) w.kept.rows;
          places = subst (λ (z : List CodeRow). ArePlaces (rows_of z) j.places.items) (sym r) (subst (ArePlaces (rows_of i.rows.items)) (sym p) w.kept.places);
          count = ap length c ∙ grown_here.count ∙ w.kept.count ∙ sym (ap length p);
          columns = subst (λ (z : List CodeRow). AreColumns (rows_of z) j.columns.items) (sym r) (subst (AreColumns (rows_of i.rows.items)) (sym c) (columns_grown (rows_of i.rows.items) i.columns.items mid w.kept.columns grown_here));
        }

        pub entering_mid : x < length mid
        entering_mid = subst (λ n. x < n) (sym grown_here.count) x_low

        module _ (noted : AreNoted mid cs) (rows : List CodeRow) (put : rows_of rows ≡ with_changes (rows_of i.rows.items) cs) where
          pub rows_made : rows_of rows ≡ exchanged numbers b x (rows_of i.rows.items)
          rows_made = put ∙ ap (with_changes (rows_of i.rows.items)) made ∙ exchange_made (rows_of i.rows.items) ks number b x w.kept.rows.solved pivot_here at_here low_here row_here within covers

          pub solutions_kept : (v : ℕ → Number) → Solves (as_space numbers) v (rows_of rows) ↔ Solves (as_space numbers) v now.rows
          solutions_kept v = subst (λ rs. Solves (as_space numbers) v (rows_of rows) ↔ Solves (as_space numbers) v rs) (sym rows_is)
              (subst (λ rs. Solves (as_space numbers) v rs ↔ Solves (as_space numbers) v (rows_of i.rows.items)) (sym rows_made)
              (solutions_after (length i.places.items) (rows_of i.listed.items) (rows_of i.rows.items) b x w.kept.rows pivot_here v))

          module _ (j : Inside) (l : j.listed.items ≡ i.listed.items) (r : j.rows.items ≡ rows) (p : j.places.items ≡ set (set i.places.items b None) x (Some number)) (c : j.columns.items ≡ set mid x []) where
            same_rows : rows_of j.rows.items ≡ exchanged numbers b x (rows_of i.rows.items)
            same_rows = ap rows_of r ∙ rows_made

            same_count : length j.places.items ≡ length i.places.items
            same_count = ap length p ∙ length-set (set i.places.items b None) x (Some number) ∙ length-set i.places.items b None

            view_here : tableau_view j ≡ record { variables = length i.places.items; listed = rows_of i.listed.items; rows = exchanged numbers b x (rows_of i.rows.items) }
            view_here = λ k. record { variables = same_count k; listed = rows_of (l k); rows = same_rows k }

            after : IsTableau (record { variables = length i.places.items; listed = rows_of i.listed.items; rows = exchanged numbers b x (rows_of i.rows.items) })
            after = tableau_after (length i.places.items) (rows_of i.listed.items) (rows_of i.rows.items) b x w.kept.rows pivot_here

            pub kept_after : TableauFits j
            kept_after = record {
              rows = subst IsTableau (sym view_here) after;
              places = subst (λ rs. ArePlaces rs j.places.items) (sym same_rows) (subst (ArePlaces (exchanged numbers b x (rows_of i.rows.items))) (sym p)
                  (places_after (rows_of i.rows.items) ks number b x w.kept.rows.solved pivot_here at_here i.places.items w.kept.places
                  (leaving_low (length i.places.items) (rows_of i.listed.items) (rows_of i.rows.items) b x w.kept.rows pivot_here)
                  (entering_low (length i.places.items) (rows_of i.listed.items) (rows_of i.rows.items) b x w.kept.rows pivot_here)));
              count = ap length c ∙ length-set mid x [] ∙ grown_here.count ∙ w.kept.count ∙ sym same_count;
              columns = subst (λ rs. AreColumns rs j.columns.items) (sym same_rows) (subst (AreColumns (exchanged numbers b x (rows_of i.rows.items))) (sym c)
                  (columns_after (rows_of i.rows.items) ks number b x w.kept.rows.solved pivot_here at_here low_here row_here within covers i.columns.items mid w.kept.columns grown_here
                  (subst (AreNoted mid) made noted) entering_mid after.solved));
            }

          pub view_after : (n : ℕ) → n ≡ length (set (set i.places.items b None) x (Some number)) → record { variables = n; listed = rows_of i.listed.items; rows = rows_of rows } ≡ with_exchange now b x
          view_after n e = (λ k. record { variables = (e ∙ length-set (set i.places.items b None) x (Some number) ∙ length-set i.places.items b None) k; listed = rows_of i.listed.items; rows = rows_made k }) ∙ ap (λ t. with_exchange t b x) w.is
