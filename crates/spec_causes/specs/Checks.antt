-- Why a check is not decided: an operation on fractions that leaves the bound.
use Rattle.std.specs.Prelude.{◌≡◌, ◌⊎◌, ℕ, List, [], ◌∷◌, Err, Contains}
use Rattle.spec_numbers.specs.Fractions.{Fraction, one_fraction, opposite}
use Rattle.spec_numbers.specs.Bounds.{Overflow}
use Rattle.spec_sorts.specs.Terms.{Equal, AtMost, Term, pair, negated}
use Rattle.spec_sorts.specs.Literals.{Clause}
use Rattle.spec_arithmetic.specs.Contradictions.{given, wide, la_generic}
use Rattle.spec_derivations.specs.Problems.{Problem, subterms_in}
use Rattle.spec_derivations.specs.Orders.{whole_terms}
use Rattle.spec_causes.specs.TermTableau.{TermTableau}
use Rattle.spec_causes.specs.Reached.{IsReached, IsStoppedAt}
use Rattle.spec_causes.specs.Counts.{AreFewRuns}
use Rattle.spec_causes.specs.Causes.{OverflowsForm, OverflowsAt}

-- that s and t are equal, and s is not at most t, is not judged by the rule `la_generic` within the bound on numbers,
-- with these weights
abbrev pub LeavesOrder : Term → Term → Clause → Fraction → Overflow → Type 0
LeavesOrder s t order w o = la_generic (negated (pair Equal s t) ∷ order) (given w ∷ given one_fraction ∷ [])
    ≡ Err (wide o)

-- An equality among terms, of which a clause of its orders leaves the bound on numbers: that its left side is at most
-- the right one, judged with
-- the weights 1 and 1; or that the right one is at most the left, with -1 and 1.
pub record IsOverflowAmong (terms : List Term) (o : Overflow) : Type 0 where
  pub left : Term
  pub right : Term
  pub there : Contains terms (pair Equal left right)
  pub leaves : LeavesOrder left right (pair AtMost left right ∷ []) one_fraction o
      ⊎ LeavesOrder left right (pair AtMost right left ∷ []) (opposite one_fraction) o

-- An operation of a search of a problem comes to the overflow o, where l clauses are learned and these exchanges are
-- kept.
pub data IsOverflowed (p : Problem) (l : ℕ) (es : List (ℕ × ℕ)) (o : Overflow) : Type 0 where
  -- the form of an atom among the subterms, before it begins
  forming : l ≡ 0 → es ≡ [] → OverflowsForm (subterms_in p) o → IsOverflowed p l es o
  -- the orders of an equality that comes in later, after these exchanges, in few runs
  growing : (s : TermTableau) (runs : ℕ) → IsReached (whole_terms p) runs es s → AreFewRuns (whole_terms p) l runs
      → IsOverflowAmong (whole_terms p) o → IsOverflowed p l es o
  -- the orders of an equality among the terms of which the search speaks, before it begins
  ordering : l ≡ 0 → es ≡ [] → IsOverflowAmong (whole_terms p) o → IsOverflowed p l es o
  -- an operation of simplex over these terms, where it is stopped after these exchanges, in few runs
  reckoning : (s : TermTableau) (runs : ℕ) → IsStoppedAt (whole_terms p) runs es s → AreFewRuns (whole_terms p) l runs
      → OverflowsAt (whole_terms p) s o → IsOverflowed p l es o
