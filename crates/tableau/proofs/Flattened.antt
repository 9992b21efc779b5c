-- Sums in which basic variables are replaced by their rows.
use Rattle.std.proofs.Common.{◌≡◌, ℕ, ◌<◌, false, cond, Option, Some, None, List, [], ◌∷◌, ◌++◌, append_assoc, length, get_or, refl, sym, ap, ◌∙◌, subst}
use Rattle.std.proofs.lemmas.List.{append-nil, length-map}
use Rattle.spec_numbers.specs.Bounds.{Overflow}
use Rattle.spec_tableaux.specs.Spaces.{as_space}
use Rattle.spec_tableaux.specs.Rows.{Entry, Row, row_of, put, plus_times, with_flattened, flattened}
use Rattle.spec_tableaux.specs.SolvedForms.{IsTidy}
use Rattle.spec_tableaux.specs.CheckOverflows.{OverflowsSum, product_of_row, sum_of_row, sum_of_two}
use Rattle.spec_tableaux.specs.Numbers.{Number, numbers}
use Rattle.spec_tableaux.proofs.Growing.{tidy_flattened}
use Rattle.tableau.specs.declared.entries.Row.{Row as CodeRow}
use Rattle.tableau.specs.Entries.{row_meant, rows_of}
use Rattle.tableau.specs.Sums.{combined, OverflowsCombined, in_product, in_sum}
use Rattle.tableau.specs.Views.{row_at}
use Rattle.tableau.specs.Kept.{ArePlaces}
use Rattle.tableau.specs.Flattenings.{OverflowsOne, in_row, in_put}
use Rattle.tableau.proofs.Loops.{combined_plus}
use Rattle.tableau.proofs.Places.{IsPlaced, placed_at, placed_in}

-- what a place that was read says
pub read_place : (rows : List CodeRow) (places : List (Option ℕ)) (y : ℕ) (o : Option ℕ) → ArePlaces (rows_of rows) places → y < length places → o ≡ get_or places y o → IsPlaced y (rows_of rows) o
read_place rows places y o a l e = placed_at y (rows_of rows) o (placed_in y (rows_of rows) places o o l e (a y))

pub some_low : (rows : List CodeRow) (y k : ℕ) → IsPlaced y (rows_of rows) (Some k) → k < length rows
some_low rows y k p = subst (λ n. k < n) (length-map rows row_meant) p.0

module _ (rs : List (Row Number)) (es : List (Entry Number)) (g : Entry Number) where
  pub flattened_row : (k : ℕ) (gs made : List (Entry Number)) → IsPlaced g.variable rs (Some k) → gs ≡ (row_at rs k).entries → made ≡ combined false es g.coefficient gs → made ≡ with_flattened numbers rs es g
  flattened_row k gs made p e m =
      m ∙ combined_plus es gs g.coefficient ∙ ap (plus_times numbers es g.coefficient) (e ∙ ap (λ (r : Row Number). r.entries) (sym p.2))
      ∙ sym (ap (λ b. cond b (plus_times numbers es g.coefficient (row_of g.variable rs).entries) (put numbers g.variable g.coefficient es)) p.1)

  pub flattened_put : (made : List (Entry Number)) → IsPlaced g.variable rs None → made ≡ put numbers g.variable g.coefficient es → made ≡ with_flattened numbers rs es g
  flattened_put made p m = m ∙ sym (ap (λ b. cond b (plus_times numbers es g.coefficient (row_of g.variable rs).entries) (put numbers g.variable g.coefficient es)) p)

  pub one_in_row : (k : ℕ) (gs : List (Entry Number)) → IsPlaced g.variable rs (Some k) → gs ≡ (row_at rs k).entries → (o : Overflow) → OverflowsCombined false es g.coefficient gs o → OverflowsOne rs es g o
  one_in_row k gs p e o s = in_row p.1 (subst (λ z. OverflowsCombined false es g.coefficient z o) (e ∙ ap (λ (r : Row Number). r.entries) (sym p.2)) s)

-- the sum with one entry more
flattened_last : (rs : List (Row Number)) (es before : List (Entry Number)) (g : Entry Number) → flattened numbers rs es (before ++ g ∷ []) ≡ with_flattened numbers rs (flattened numbers rs es before) g
flattened_last rs es [] g = refl
flattened_last rs es (d ∷ before) g = flattened_last rs (with_flattened numbers rs es d) before g

-- the sum of the entries up to here
pub record SumSoFar (rs : List (Row Number)) (whole total rest : List (Entry Number)) : Type 0 where
  pub before : List (Entry Number)
  pub split : whole ≡ before ++ rest
  pub is : total ≡ flattened numbers rs [] before

pub sum_none : (rs : List (Row Number)) (whole : List (Entry Number)) → SumSoFar rs whole [] whole
sum_none rs whole = record { before = []; split = refl; is = refl }

pub sum_tidy : (rs : List (Row Number)) (whole total rest : List (Entry Number)) → SumSoFar rs whole total rest → IsTidy numbers 0 total
sum_tidy rs whole total rest s = subst (IsTidy numbers 0) (sym s.is) (tidy_flattened (as_space numbers) rs [] s.before tt)

pub sum_one : (rs : List (Row Number)) (whole total rest more new : List (Entry Number)) (g : Entry Number) → rest ≡ g ∷ more → new ≡ with_flattened numbers rs total g → SumSoFar rs whole total rest → SumSoFar rs whole new more
sum_one rs whole total rest more new g e n s = record {
  before = s.before ++ g ∷ [];
  split = s.split ∙ ap (λ z. s.before ++ z) e ∙ sym (append_assoc s.before (g ∷ []) more);
  is = n ∙ ap (λ z. with_flattened numbers rs z g) s.is ∙ sym (flattened_last rs [] s.before g);
}

pub sum_all : (rs : List (Row Number)) (whole total rest : List (Entry Number)) → rest ≡ [] → SumSoFar rs whole total rest → total ≡ flattened numbers rs [] whole
sum_all rs whole total rest e s = s.is ∙ ap (flattened numbers rs []) (sym (s.split ∙ ap (λ z. s.before ++ z) e ∙ append-nil s.before))

overflows_at : (rs : List (Row Number)) (whole before more : List (Entry Number)) (g : Entry Number) (o : Overflow) → whole ≡ before ++ g ∷ more → OverflowsOne rs (flattened numbers rs [] before) g o → OverflowsSum rs whole o
overflows_at rs whole before more g o e (in_row b (in_product c t w)) = product_of_row before g more e b c t w
overflows_at rs whole before more g o e (in_row b (in_sum c t d u v w)) = sum_of_row before g more e b c t d u v w
overflows_at rs whole before more g o e (in_put b s) = sum_of_two before g more e b s.entry s.there s.same s.wide

pub sum_overflowing : (rs : List (Row Number)) (whole total rest more : List (Entry Number)) (g : Entry Number) → rest ≡ g ∷ more → SumSoFar rs whole total rest → (o : Overflow) → OverflowsOne rs total g o → OverflowsSum rs whole o
sum_overflowing rs whole total rest more g e s o t =
    overflows_at rs whole s.before more g o (s.split ∙ ap (λ z. s.before ++ z) e) (subst (λ z. OverflowsOne rs z g o) s.is t)
