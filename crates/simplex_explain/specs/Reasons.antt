-- Literals with weights, as a table means them.
use Rattle.std.specs.Prelude.{◌≡◌, List, map, All, Contains}
use Rattle.spec_numbers.specs.Fractions.{Fraction}
use Rattle.spec_sorts.specs.Terms.{Term}
use Rattle.spec_sorts.specs.Literals.{Clause, Literal}
use Rattle.spec_arithmetic.specs.Contradictions.{Coefficient, given}
use Rattle.spec_simplex.specs.Weights.{Summand, IsSummand, CannotHold, denial}
use Rattle.ratio128.specs.declared.ratio.Ratio.{Ratio}
use Rattle.rule_bool.specs.Arguments.{fractions_of}
use Rattle.term_core.specs.declared.ids.TermId.{TermId}
use Rattle.term_core.specs.declared.ids.Lit.{Lit}
use Rattle.term_core.specs.Tables.{TableView, term_at, literal_at}
use Rattle.proof_log.specs.Logs.{IsFormulaIn}
use Rattle.proof_log.specs.Theories.{IsAtomIn}
use Rattle.simplex_explain.specs.declared.weighted.Weighted.{Weighted}

-- the literals, in their order
abbrev pub literals_meant : TableView → List Weighted → List Literal
literals_meant t rs = map (λ (r : Weighted). literal_at t r.literal) rs

-- the weights, in the same order
abbrev pub weights_of : List Weighted → List Ratio
weights_of rs = map (λ (r : Weighted). r.weight) rs

-- the numbers that they are
abbrev pub weights_meant : List Weighted → List Fraction
weights_meant rs = fractions_of (weights_of rs)

-- the clause that not all of the literals hold
abbrev pub denials_meant : TableView → List Weighted → Clause
denials_meant t rs = map denial (literals_meant t rs)

-- the weights as arguments of the rule `la_generic`
abbrev pub arguments_meant : List Weighted → List Coefficient
arguments_meant rs = map given (weights_meant rs)

-- each literal is one of an atom of the table, which is one of these terms
abbrev pub AreAtomReasons : List Term → TableView → List Weighted → Type 0
AreAtomReasons ts t rs = All (λ (r : Weighted). IsAtomIn t r.literal.term × Contains ts (term_at t r.literal.term)) rs

-- each literal is one of these
abbrev pub AreHeld : List Lit → List Weighted → Type 0
AreHeld held rs = All (λ (r : Weighted). Contains held r.literal) rs

-- Literals that cannot all hold by their weights.
pub record Refutes (t : TableView) (rs : List Weighted) : Type 0 where
  -- what each says, its form and its weight
  pub summands : List Summand
  pub fit : All IsSummand summands
  -- they are those of the literals with the weights
  pub literals : map (λ (x : Summand). x.literal) summands ≡ literals_meant t rs
  pub weights : map (λ (x : Summand). x.weight) summands ≡ weights_meant rs
  -- their sum is a contradiction
  pub contradiction : CannotHold summands

-- a formula of the table is this term
abbrev pub IsDenialPut : TableView → Term → TermId → Type 0
IsDenialPut t u id = IsFormulaIn t id × (term_at t id ≡ u)
