-- What follows where a nonbasic variable moves.
use Rattle.std.proofs.Common.{◌≡◌, ℕ, zero, suc, ◌<◌, Bool, true, false, List, [], ◌∷◌, length, get_or, slice_index_or, Err, refl, sym, ◌∙◌, ap, arith, cond, ◌==◌}
use Rattle.std.proofs.lemmas.Bool.Decides.{nat_tests}
use Rattle.spec_numbers.specs.Bounds.{Overflow}
use Rattle.spec_tableaux.specs.Deltas.{delta_added, delta_scaled}
use Rattle.spec_tableaux.specs.Spaces.{Pair}
use Rattle.spec_tableaux.specs.Rows.{Row, coefficient_of, is_basic}
use Rattle.spec_tableaux.specs.SolvedForms.{IsNonbasic}
use Rattle.spec_tableaux.specs.LeastVariable.{moved}
use Rattle.spec_tableaux.specs.Numbers.{Number, numbers}
use Rattle.spec_tableaux.proofs.Numbers.{numbers_are_ordered_field}
use Rattle.spec_tableaux.proofs.Steps.{same_eqb}
use Rattle.spec_tableaux.proofs.Sums.{plus_origin_right}
use Rattle.tableau.specs.Views.{IsColumn, row_at}
use Rattle.spec_tableaux.specs.Points.{deltas, point_in, state_at, delta_in}
use Rattle.simplex_check.specs.Changes.{is_changed}
use Rattle.spec_tableaux.specs.BoundsOverflows.{OverflowsMove, coefficient_in, product, sum_of_product}
use Rattle.simplex_check.specs.declared.changes.ValueChange.{ValueChange}
use Rattle.simplex_check.proofs.Points.{deltas_are_space}
use Rattle.simplex_check.proofs.RowPlaces.{HasPlace, has_place}

-- a basic variable comes to where it moves
pub follower_value : (rs : List (Row Number)) (x : ℕ) (d : Pair Number) (v : ℕ → Pair Number) (b : ℕ) (c : Number) (old step value : Pair Number) → is_basic b rs ≡ true → c ≡ coefficient_in rs b x
    → step ≡ deltas.scale c d → old ≡ v b → value ≡ deltas.plus old step → value ≡ moved deltas rs x d v b
follower_value rs x d v b c old step value m g s o e =
    e ∙ (λ i. deltas.plus (o i) ((s ∙ ap (λ k. deltas.scale k d) g) i))
    ∙ sym (ap (λ q. cond q (deltas.plus (v b) (deltas.scale (coefficient_in rs b x) d)) (cond (b == x) (deltas.plus (v b) d) (v b))) m)

pub follower_product : (rs : List (Row Number)) (vs : List (Pair Number)) (x : ℕ) (d : Pair Number) (b : ℕ) (c : Number) (o : Overflow) → is_basic b rs ≡ true → c ≡ coefficient_in rs b x
    → delta_scaled c.fraction (delta_in d) ≡ Err o → OverflowsMove (state_at rs vs) x d o
follower_product rs vs x d b c o m g h = product b m (ap (λ (n : Number). delta_scaled n.fraction (delta_in d)) (sym g) ∙ h)

pub follower_sum : (rs : List (Row Number)) (vs : List (Pair Number)) (x : ℕ) (d : Pair Number) (b : ℕ) (c : Number) (old step : Pair Number) (o : Overflow) → is_basic b rs ≡ true → c ≡ coefficient_in rs b x
    → step ≡ deltas.scale c d → old ≡ point_in vs b → delta_added (delta_in old) (delta_in step) ≡ Err o → OverflowsMove (state_at rs vs) x d o
follower_sum rs vs x d b c old step o m g s e h =
    sum_of_product b m ((λ i. delta_added (delta_in (sym e i)) (delta_in (sym (s ∙ ap (λ k. deltas.scale k d) g) i))) ∙ h)

-- the variable that moves comes to its value
pub first_comes : (rs : List (Row Number)) (x : ℕ) (d : Pair Number) (v : ℕ → Pair Number) (value : Pair Number) → IsNonbasic rs x → value ≡ deltas.plus (v x) d → value ≡ moved deltas rs x d v x
first_comes rs x d v value n e =
    e ∙ sym (ap (λ q. cond q (deltas.plus (v x) (deltas.scale (coefficient_in rs x x) d)) (cond (x == x) (deltas.plus (v x) d) (v x))) n ∙ ap (λ q. cond q (deltas.plus (v x) d) (v x)) (same_eqb x))

same_default : (ks : List ℕ) (j d e : ℕ) → j < length ks → get_or ks j d ≡ get_or ks j e
same_default [] j d e h = absurd (omega arith)
same_default (k ∷ ks) zero d e h = refl
same_default (k ∷ ks) (suc j) d e h = same_default ks j d e (omega arith)

-- variables that are not changed stay
pub others_stay : (rs : List (Row Number)) (x : ℕ) (d : Pair Number) (v : ℕ → Pair Number) (column : List ℕ) (cs : List ValueChange) → IsColumn rs x column → is_changed x cs ≡ true
    → ((j : ℕ) → j < length column → is_changed (row_at rs (slice_index_or column j 0)).basic cs ≡ true) → (y : ℕ) → is_changed y cs ≡ false → moved deltas rs x d v y ≡ v y
others_stay rs x d v column cs col first passed y n = by (is_basic y rs) refl
  where
    none : (y == x) ≡ true → ⊥
    none e = let s : y ≡ x = grind (arith, nat_tests) in let m : is_changed y cs ≡ true = ap (λ z. is_changed z cs) s ∙ first in cc

    at : (q : Bool) → (y == x) ≡ q → cond (y == x) (deltas.plus (v y) d) (v y) ≡ v y
    at true e = absurd (none e)
    at false e = ap (λ q. cond q (deltas.plus (v y) d) (v y)) e

    zero_entry : (p : HasPlace rs y) (q : Bool) → numbers.is_zero (coefficient_of numbers x (row_at rs p.number).entries) ≡ q → coefficient_of numbers x (row_at rs p.number).entries ≡ numbers.zero
    zero_entry p true e = numbers_are_ordered_field.zero_test _ e
    zero_entry p false e = absurd (
        let w = col.covers p.number p.within e in
        let s : get_or column w.0 0 ≡ p.number = same_default column w.0 0 p.number w.1 ∙ w.2 in
        let m : is_changed y cs ≡ true = ap (λ z. is_changed z cs) (sym p.basic) ∙ ap (λ k. is_changed (row_at rs k).basic cs) (sym s) ∙ passed w.0 w.1 in
        cc)

    by : (q : Bool) → is_basic y rs ≡ q → moved deltas rs x d v y ≡ v y
    by true m =
        let p : HasPlace rs y = has_place rs y m in
        let z : coefficient_in rs y x ≡ numbers.zero = ap (λ (r : Row Number). coefficient_of numbers x r.entries) p.row ∙ zero_entry p (numbers.is_zero (coefficient_of numbers x (row_at rs p.number).entries)) refl in
        ap (λ q. cond q (deltas.plus (v y) (deltas.scale (coefficient_in rs y x) d)) (cond (y == x) (deltas.plus (v y) d) (v y))) m
        ∙ ap (λ k. deltas.plus (v y) (deltas.scale k d)) z ∙ ap (deltas.plus (v y)) (deltas_are_space.zero_scale d) ∙ plus_origin_right deltas deltas_are_space (v y)
    by false m = ap (λ q. cond q (deltas.plus (v y) (deltas.scale (coefficient_in rs y x) d)) (cond (y == x) (deltas.plus (v y) d) (v y))) m ∙ at (y == x) refl
