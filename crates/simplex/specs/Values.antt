-- Terms with coefficients as a table means them, sums of them step by step, and values by the numbers of terms.
use Rattle.std.specs.Prelude.{◌≡◌, ◌⊎◌, ℕ, ◌<◌, List, map, get_or, All, Option, Some, None, Err}
use Rattle.spec_numbers.specs.Fractions.{Fraction}
use Rattle.spec_numbers.specs.Bounds.{Overflow}
use Rattle.spec_sorts.specs.Terms.{Term}
use Rattle.spec_tableaux.specs.Spaces.{Pair}
use Rattle.spec_tableaux.specs.Numbers.{Number}
use Rattle.spec_tableaux.specs.Deltas.{delta_added, delta_scaled}
use Rattle.spec_tableaux.specs.Points.{deltas, point_in, delta_in}
use Rattle.ratio128.specs.declared.ratio.Ratio.{Ratio}
use Rattle.delta_num.specs.declared.delta.Delta.{Delta}
use Rattle.term_core.specs.declared.ids.TermId.{TermId}
use Rattle.term_core.specs.Tables.{TableView, IsIn}
use Rattle.linear_form.specs.Meant.{pair_meant}
use Rattle.linear_form.specs.Entries.{pair_view}
use Rattle.simplex_atoms.specs.Owners.{owner_at, IsNumberOf}
use Rattle.simplex.specs.Views.{SimplexView}

-- terms with coefficients, as a table means them
abbrev pub variables_meant : TableView → List (TermId × Ratio) → List (Term × Fraction)
variables_meant t xs = map (pair_meant t) (map pair_view xs)

-- each of the terms is of the table
abbrev pub AreTermsIn : TableView → List (TermId × Ratio) → Type 0
AreTermsIn t xs = All (λ (p : TermId × Ratio). IsIn t p.0) xs

-- a sum with k times the value of a variable, or without one
abbrev pub next_by : SimplexView → Number → Pair Number → Option ℕ → Pair Number
next_by v k sum None = sum
next_by v k sum (Some y) = deltas.plus sum (deltas.scale k (point_in v.assignment.values y))

-- The sum with k times the value of the variable that means a term, if one does.
pub record IsNextSum (v : SimplexView) (id : TermId) (k : Number) (sum next : Pair Number) : Type 0 where
  pub variable : Option ℕ
  pub represents : IsNumberOf v.atoms.owners id variable
  pub is : next ≡ next_by v k sum variable

-- It comes to the overflow o: the product does, or the sum with it.
pub record OverflowsNextSum (v : SimplexView) (id : TermId) (k : Number) (sum : Pair Number)
    (o : Overflow) : Type 0 where
  pub variable : ℕ
  pub represents : owner_at v.atoms.owners variable ≡ Some id
  pub may_overflow : (delta_scaled k.fraction (delta_in (point_in v.assignment.values variable)) ≡ Err o)
      ⊎ (delta_added (delta_in sum) (delta_in (deltas.scale k (point_in v.assignment.values variable))) ≡ Err o)

-- Values by the numbers of terms: those of the first n of these terms, of each the value at its place.
pub record TellsValues (told : ℕ → Option Delta) (ids : List TermId) (values : List Delta) (n : ℕ) : Type 0 where
  -- what is given is the value at the place of such a term
  pub tells : (q : ℕ) (d : Delta) → told q ≡ Some d
      → (k : ℕ) × (k < n) × (get_or ids k (record { 0 = q }) ≡ record { 0 = q }) × (get_or values k d ≡ d)
  -- and each of them is given
  pub tells_all : (k : ℕ) (id : TermId) → k < n → get_or ids k id ≡ id → told id.0 ≡ None → ⊥
