-- Numbers of terms by which held literals hold, where shared terms keep their values apart.
use Rattle.std.specs.Prelude.{◌≡◌, ◌↔◌, ℕ, List, map, All, Option, Some, None, Err, Contains}
use Rattle.spec_numbers.specs.Fractions.{Fraction, IsReduced}
use Rattle.spec_numbers.specs.Bounds.{Overflow}
use Rattle.spec_sorts.specs.Terms.{Term}
use Rattle.spec_arithmetic.specs.Numbers.{number_at}
use Rattle.spec_tableaux.specs.Spaces.{Pair}
use Rattle.spec_tableaux.specs.Numbers.{Number, numbers}
use Rattle.spec_simplex.specs.Numbers.{HoldsAt}
use Rattle.spec_tableaux.specs.Deltas.{delta_evaluated}
use Rattle.spec_tableaux.specs.Points.{point_in, delta_in}
use Rattle.spec_tableaux.specs.Halves.{at_number}
use Rattle.spec_causes.specs.Shared.{IsValueOf}
use Rattle.spec_causes.specs.Causes.{OverflowsValueAt}
use Rattle.delta_num.specs.declared.delta.Delta.{Delta}
use Rattle.term_core.specs.declared.ids.TermId.{TermId}
use Rattle.term_core.specs.Tables.{TableView}
use Rattle.proof_log.specs.Theories.{literals_held}
use Rattle.simplex_bounds.specs.Deltas.{pair_of}
use Rattle.simplex_atoms.specs.Owners.{IsNumberOf}
use Rattle.simplex.specs.Views.{SimplexView}
use Rattle.simplex.specs.Coming.{term_tableau_of}

-- the number of a variable where the infinitesimal is e, and 0 of none
abbrev pub number_by : Number → SimplexView → Option ℕ → Number
number_by e v None = numbers.zero
number_by e v (Some y) = at_number e (point_in v.assignment.values y)

-- The number of a term where the infinitesimal is e.
pub record IsNumberAt (e : Number) (v : SimplexView) (id : TermId) (q : Number) : Type 0 where
  -- the variable that means the term, if one does
  pub variable : Option ℕ
  pub represents : IsNumberOf v.atoms.owners id variable
  -- it has the number
  pub is : q ≡ number_by e v variable

-- the number of a term where the infinitesimal is e: that of its value, if it has one, and else that of its variable
abbrev pub IsNumberWith : Number → SimplexView → TermId → Option Delta → Number → Type 0
IsNumberWith e v id None q = IsNumberAt e v id q
IsNumberWith e v id (Some d) q = q ≡ at_number e (pair_of d)

-- it comes to the overflow o
abbrev pub OverflowsNumberWith : Number → SimplexView → Option Delta → Overflow → Type 0
OverflowsNumberWith e v None o = (t : TableView) → OverflowsValueAt e (term_tableau_of t v) o
OverflowsNumberWith e v (Some d) o = delta_evaluated (delta_in (pair_of d)) e.fraction ≡ Err o

-- These are numbers of terms by which the held literals hold. Shared terms have different ones where they have
-- different values.
pub record HoldApart (t : TableView) (v : SimplexView) (ts shared : List Term) (xs : List Fraction) : Type 0 where
  -- the number of each term, in lowest terms
  pub number : Term → Fraction
  pub reduced : (u : Term) → IsReduced (number u)
  -- the literals hold
  pub hold : All (HoldsAt number) (literals_held t v.theory)
  -- two shared terms have one number exactly where they have one value
  pub apart : (u w : Term) → Contains shared u → Contains shared w → (p q : Pair Number)
      → IsValueOf (term_tableau_of t v) u p → IsValueOf (term_tableau_of t v) w q → (number u ≡ number w) ↔ (p ≡ q)
  -- each of them has that of its head at its arguments' numbers
  pub heads : (u : Term) → Contains shared u → number u ≡ number_at number u
  -- these are the numbers of those terms, in their order
  pub are : xs ≡ map number ts
