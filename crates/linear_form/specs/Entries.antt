-- The entries of a form of the code, some of which are dead, and the index of those that are not.
use Rattle.std.specs.Prelude.{◌≡◌, ℕ, ◌<◌, Bool, true, false, List, [], ◌∷◌, length, map, All, Option, Some}
use Rattle.std.specs.Prelude.{slice_index_or}
use Rattle.spec_numbers.specs.Fractions.{Fraction}
use Rattle.spec_sorts.specs.Terms.{Term}
use Rattle.spec_arithmetic.specs.Signs.{is_zero}
use Rattle.ratio128.specs.declared.ratio.Ratio.{Ratio}
use Rattle.ratio128.specs.Meant.{fraction}
use Rattle.term_core.specs.declared.ids.TermId.{TermId}
use Rattle.term_core.specs.Tables.{TableView, IsIn}
use Rattle.linear_form.specs.Meant.{pair_meant}

-- a variable before others, unless the test says that its coefficient is 0
abbrev pub unless_dead : Bool → TermId → Fraction → List (TermId × Fraction) → List (TermId × Fraction)
unless_dead true v k rest = rest
unless_dead false v k rest = (v, k) ∷ rest

-- the entries whose coefficients are not 0
abbrev pub live : List (TermId × Ratio) → List (TermId × Fraction)
live [] = []
live (p ∷ ps) = unless_dead (is_zero (fraction p.1)) p.0 (fraction p.1) (live ps)

-- a variable with its coefficient
abbrev pub pair_view : TermId × Ratio → TermId × Fraction
pair_view p = (p.0, fraction p.1)

-- the variables that a table means
abbrev pub variables_meant : TableView → List (TermId × Fraction) → List (Term × Fraction)
variables_meant t vs = map (pair_meant t) vs

-- each variable is a term of the table
abbrev pub HasVariables : TableView → List (TermId × Fraction) → Type 0
HasVariables t vs = All (λ (p : TermId × Fraction). IsIn t p.0) vs

-- the number is none of these variables'
abbrev pub LacksNumber : ℕ → List (TermId × Fraction) → Type 0
LacksNumber q [] = Unit {0}
LacksNumber q (v ∷ vs) = (v.0.0 ≡ q → ⊥) × LacksNumber q vs

-- An entry of the variable of a number, whose coefficient is not 0.
pub record IsLiveAt (q : ℕ) (ps : List (TermId × Ratio)) (at : ℕ) : Type 0 where
  -- it is an entry
  pub within : at < length ps
  -- it is of that variable
  pub same : (d : TermId × Ratio) → (slice_index_or ps at d).0.0 ≡ q
  -- it is not dead
  pub not_zero : (d : TermId × Ratio) → is_zero (fraction (slice_index_or ps at d).1) ≡ false

-- An index of entries: the place of each live one by the number of its variable.
pub record IsIndex (places : ℕ → Option ℕ) (ps : List (TermId × Ratio)) : Type 0 where
  -- what it tells is live
  pub tells : (q at : ℕ) → places q ≡ Some at → IsLiveAt q ps at
  -- it tells all that are live
  pub tells_all : (q at : ℕ) → IsLiveAt q ps at → places q ≡ Some at

-- Entries of which each variable has one that is live at most, with an index where there are more than eight.
pub record IsKept (places : ℕ → Option ℕ) (ps : List (TermId × Ratio)) : Type 0 where
  -- an index of them, which the code may have or not
  pub index : ℕ → Option ℕ
  pub tells : IsIndex index ps
  -- where there are more than eight, it has this one
  pub same : 8 < length ps → (q : ℕ) → places q ≡ index q
