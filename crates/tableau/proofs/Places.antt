-- The row in which a variable is basic, by its number.
use Rattle.std.proofs.Common.{◌≡◌, ℕ, ◌<◌, ◌==◌, Bool, true, false, cond, ◌||◌, Option, Some, None, MatchOption, List, [], ◌∷◌, length, get_or, refl, sym, ◌∙◌, subst, arith}
use Rattle.std.proofs.lemmas.List.{get_or_default}
use Rattle.spec_tableaux.specs.Rows.{Row, row_of, is_basic}
use Rattle.spec_tableaux.specs.Numbers.{Number}
use Rattle.tableau.specs.Views.{row_at, place, next_place}

-- what a place says of its variable
abbrev pub IsPlaced : ℕ → List (Row Number) → Option ℕ → Type 0
IsPlaced y rs o = MatchOption o (is_basic y rs ≡ false) (λ k. (k < length rs) × (is_basic y rs ≡ true) × (row_of y rs ≡ row_at rs k))

next : (y : ℕ) (r : Row Number) (rs : List (Row Number)) → (r.basic == y) ≡ false → (o : Option ℕ) → IsPlaced y rs o → IsPlaced y (r ∷ rs) (next_place o)
next y r rs e None h = (λ i. e i || h i)
next y r rs e (Some k) h = (omega (arith, h.0), (λ i. e i || h.1 i), (λ i. cond (e i) r (h.2 i)))

pub placed : (y : ℕ) (rs : List (Row Number)) → IsPlaced y rs (place y rs)
placed y [] = refl
placed y (r ∷ rs) = by (r.basic == y) refl (placed y rs)
  where
    by : (q : Bool) → (r.basic == y) ≡ q → IsPlaced y rs (place y rs) → IsPlaced y (r ∷ rs) (cond q (Some 0) (next_place (place y rs)))
    by true e h = (omega arith, (λ i. e i || is_basic y rs), (λ i. cond (e i) r (row_of y rs)))
    by false e h = next y r rs e (place y rs) h

pub placed_at : (y : ℕ) (rs : List (Row Number)) (o : Option ℕ) → o ≡ place y rs → IsPlaced y rs o
placed_at y rs o e = subst (IsPlaced y rs) (sym e) (placed y rs)

-- a place that is read with another default
pub placed_in : (y : ℕ) (rs : List (Row Number)) (places : List (Option ℕ)) (o d : Option ℕ) → y < length places → o ≡ get_or places y d → get_or places y None ≡ place y rs → o ≡ place y rs
placed_in y rs places o d l e p = e ∙ get_or_default places y d None l ∙ p
