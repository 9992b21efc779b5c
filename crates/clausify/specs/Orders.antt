-- Equalities of numbers in a table, the orders of their sides, and numbers of the terms that a search of both speaks
-- of.
use Rattle.std.specs.Prelude.{◌≡◌, List, [], ◌∷◌}
use Rattle.spec_numbers.specs.Fractions.{one_fraction}
use Rattle.spec_sorts.specs.Terms.{Number, Equal, AtMost, Term, pair, negated, sort_of}
use Rattle.spec_sorts.specs.Literals.{Clause}
use Rattle.spec_sorts.specs.Subsets.{AreAmong}
use Rattle.spec_arithmetic.specs.Contradictions.{Coefficient, given}
use Rattle.spec_derivations.specs.Problems.{Problem}
use Rattle.spec_derivations.specs.Orders.{order_facts, order_clauses, ordered_terms}
use Rattle.ratio128.specs.declared.ratio.Ratio.{Ratio}
use Rattle.ratio128.specs.Meant.{fraction}
use Rattle.term_core.specs.declared.ids.TermId.{TermId}
use Rattle.term_core.specs.Tables.{TableView, term_at, clause_at}
use Rattle.proof_log.specs.Logs.{AreFormulasIn}
use Rattle.proof_log.specs.Theories.{IsTermIn}
use Rattle.clausify.specs.declared.sides.Sides.{Sides}

-- the number is that of a term of sort Real
abbrev pub IsNumberIn : TableView → TermId → Type 0
IsNumberIn t id = IsTermIn t id × (sort_of (term_at t id) ≡ Number)

-- that one number is at most another
abbrev pub order_at : TableView → TermId → TermId → Term
order_at t a b = pair AtMost (term_at t a) (term_at t b)

-- the term is no equality of numbers
abbrev pub HasNoOrders : Term → Type 0
HasNoOrders e = (order_facts e ≡ []) × (order_clauses e ≡ [])

-- The term is an equality of numbers, with these sides.
pub record AreSidesOf (t : TableView) (e : Term) (x : Sides) : Type 0 where
  -- the left one
  pub left : IsNumberIn t x.left
  -- the right one
  pub right : IsNumberIn t x.right
  -- the equality is made of these
  pub means : e ≡ pair Equal (term_at t x.left) (term_at t x.right)

-- the clause that one side is at most the other where both are equal
abbrev pub order_clause : TableView → TermId → TermId → TermId → Clause
order_clause t id a b = negated (term_at t id) ∷ order_at t a b ∷ []

-- the arguments with which the rule `la_generic` judges it: this one of the equality, and 1 of the order
abbrev pub arguments_by : Ratio → List Coefficient
arguments_by w = given (fraction w) ∷ given one_fraction ∷ []

-- The numbers are those of formulas: the terms of which a search of a problem over linear arithmetic speaks with their
-- subterms.
pub record AreOrdered (t : TableView) (p : Problem) (ids : List TermId) : Type 0 where
  -- each is the number of a formula
  pub formulas : AreFormulasIn t ids
  -- each such term has a number
  pub each : AreAmong (ordered_terms p) (clause_at t ids)
  -- each number has such a term
  pub only : AreAmong (clause_at t ids) (ordered_terms p)
