-- What both theories say of shared terms, and whether they agree. Source: Nelson and Oppen 1979.
use Rattle.std.specs.Prelude.{◌≡◌, ◌+◌, ◌<◌, ℕ, List, length, map, get_or}
use Rattle.spec_numbers.specs.Fractions.{Fraction, zero_fraction}
use Rattle.spec_tableaux.specs.Deltas.{number}
use Rattle.spec_derivations.specs.Problems.{Problem}
use Rattle.ratio128.specs.Meant.{fraction}
use Rattle.delta_num.specs.Meant.{delta}
use Rattle.term_core.specs.declared.ids.TermId.{TermId}
use Rattle.term_core.specs.Tables.{TableView}
use Rattle.term_clauses.specs.SpokenTerms.{no_id}
use Rattle.proof_log.specs.Theories.{TheoryView}
use Rattle.agreement.specs.declared.agreeing.Shared.{Shared}
use Rattle.search_loop.specs.declared.search.Search.{Search}
use Rattle.solve_core.specs.declared.agreeing.AgreementFound.{AgreementFound}
use Rattle.solve_core.specs.declared.agreeing.AgreementFound.TheVariants.{Agreed, Differ}
use Rattle.solve_core.specs.Answering.{HoldTogether}
use Rattle.solve_core.specs.Sharing.{IsAskedOf, AreOpen}

-- It says of the term at a place what both theories say: its class and its number are at the place that is as far from
-- another one.
pub record IsTheoryValueAt (ids : List TermId) (classes : List ℕ) (numbers : List Fraction) (from k : ℕ)
    (x : Shared) : Type 0 where
  -- the term
  pub term : x.term ≡ get_or ids k no_id
  -- its class
  pub class : x.class ≡ get_or classes (from + k) 0
  -- its number
  pub value : delta x.value ≡ number (get_or numbers (from + k) zero_fraction)

-- This is stated of the first n terms, in order.
pub record AreTheoryValuesBelow (ids : List TermId) (classes : List ℕ) (numbers : List Fraction) (from n : ℕ)
    (xs : List Shared) : Type 0 where
  -- there are as many
  pub count : length xs ≡ n
  -- of each it is stated at its place
  pub each : (k : ℕ) (d : Shared) → k < n → IsTheoryValueAt ids classes numbers from k (get_or xs k d)

-- this is stated of all terms
abbrev pub AreTheoryValues : List TermId → List ℕ → List Fraction → ℕ → List Shared → Type 0
AreTheoryValues ids classes numbers from xs = AreTheoryValuesBelow ids classes numbers from (length ids) xs

-- what is found where a search is saturated: numbers by which the literals hold, and classes that they agree with; or
-- pairs of shared terms of
-- whose equalities the search does not speak
abbrev pub FindsAgreement : TableView → Search → TheoryView → List TermId → AgreementFound → Type 0
FindsAgreement t x v ids (Agreed assigned_values) =
    HoldTogether t x.terms.items v assigned_values.classes.items (map fraction assigned_values.numbers.items)
FindsAgreement t x v ids (Differ pairs) = (p : Problem) → IsAskedOf t ids p x → AreOpen t ids p pairs.items
