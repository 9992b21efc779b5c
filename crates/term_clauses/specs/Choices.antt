-- Choices between terms of another sort than Bool, and equalities, in a table.
use Rattle.std.specs.Prelude.{◌≡◌, ◌≢◌, Bool, true, false, not, [], ◌∷◌}
use Rattle.spec_sorts.specs.Terms.{Truth, True, False, Ite, Equal, Term, of, pair, negated, sort_of}
use Rattle.spec_derivations.specs.Base.{branch_equalities, choice_clauses}
use Rattle.term_core.specs.declared.ids.TermId.{TermId}
use Rattle.term_core.specs.Tables.{TableView, term_at}
use Rattle.proof_log.specs.Logs.{IsFormulaIn}
use Rattle.proof_log.specs.Theories.{IsTermIn}
use Rattle.term_clauses.specs.declared.choices.IteParts.{IteParts}

-- The numbers are those of two terms of one sort.
pub record AreComparable (t : TableView) (a b : TermId) : Type 0 where
  -- the first
  pub one : IsTermIn t a
  -- the second
  pub other : IsTermIn t b
  -- they have one sort
  pub sort : sort_of (term_at t a) ≡ sort_of (term_at t b)

-- the equality of the terms of two numbers
abbrev pub equality_at : TableView → TermId → TermId → Term
equality_at t a b = pair Equal (term_at t a) (term_at t b)

-- the term is no choice between terms of another sort than Bool
abbrev pub IsNoChoice : Term → Type 0
IsNoChoice t = (branch_equalities t ≡ []) × (choice_clauses t ≡ [])

-- The term is a choice between terms of another sort than Bool, with these parts.
pub record IsIteTerm (t : TableView) (id : TermId) (x : IteParts) : Type 0 where
  -- what chooses is a formula
  pub condition : IsFormulaIn t x.condition
  -- the first term has the sort of the choice
  pub first : AreComparable t id x.first
  -- so has the second
  pub second : AreComparable t id x.second
  -- the choice is made of these
  pub means : term_at t id ≡ of Ite (term_at t x.condition ∷ term_at t x.first ∷ term_at t x.second ∷ [])
  -- its sort is another than Bool
  pub apart : sort_of (term_at t id) ≢ Truth

-- the term of a truth value
abbrev pub truth_term : Bool → Term
truth_term true = of True []
truth_term false = of False []

-- that the negation of a truth value is the other
abbrev pub truth_fact : Bool → Term
truth_fact b = pair Equal (negated (truth_term b)) (truth_term (not b))
