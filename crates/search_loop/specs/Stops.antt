-- What shows which exchanges a search made, and that it stops: an operation on fractions that leaves the bound.
use Rattle.std.specs.Prelude.{◌≡◌, ℕ, List, []}
use Rattle.spec_sorts.specs.Terms.{Term}
use Rattle.spec_derivations.specs.Problems.{Problem, subterms_in}
use Rattle.spec_derivations.specs.Orders.{whole_terms}
use Rattle.spec_causes.specs.TermTableau.{TermTableau}
use Rattle.spec_causes.specs.Reached.{IsReached, IsStoppedAt}
use Rattle.spec_causes.specs.Counts.{AreFewRuns}
use Rattle.spec_causes.specs.Causes.{OverflowsForm, OverflowsAt}
use Rattle.spec_causes.specs.Checks.{IsOverflowAmong}
use Rattle.ratio128.specs.Meant.{overflow}
use Rattle.sat_budget.specs.declared.limits.Basis.{Basis}
use Rattle.sat_budget.specs.declared.limits.Strain.{Strain}
use Rattle.simplex_atoms.specs.TermTableauViews.{IsBasisAt}

-- A search over terms that learned l clauses made these exchanges, in few runs.
pub record HasExchanged (ts : List Term) (l : ℕ) (es : List (ℕ × ℕ)) : Type 0 where
  -- where they lead
  pub tableau : TermTableau
  pub runs : ℕ
  pub reached : IsReached ts runs es tableau
  -- the runs are few
  pub few : AreFewRuns ts l runs

-- no basis was there yet
abbrev pub IsNoBasis : Basis → Type 0
IsNoBasis b = (b.variables.items ≡ []) × (b.values.items ≡ [])

-- An operation of a search of the problem, which learned l clauses and kept these exchanges, leaves the bound, as the
-- strain tells,
-- which comes with the basis and the values where it was asked for.
pub data IsOverflowed (p : Problem) (l : ℕ) (es : List (ℕ × ℕ)) (s : Strain) : Type 0 where
  -- the form of an atom, before it begins
  forming : l ≡ 0 → es ≡ [] → OverflowsForm (subterms_in p) (overflow s.wide) → IsNoBasis s.basis
      → IsOverflowed p l es s
  -- a clause of the orders of an equality, before there is a basis
  ordering : l ≡ 0 → es ≡ [] → IsOverflowAmong (whole_terms p) (overflow s.wide) → IsNoBasis s.basis
      → IsOverflowed p l es s
  -- a clause of the orders of an equality that comes in later, where these exchanges lead
  growing : (e : HasExchanged (whole_terms p) l es) → IsOverflowAmong (whole_terms p) (overflow s.wide)
      → IsBasisAt e.tableau s.basis → IsOverflowed p l es s
  -- an operation of simplex, where it is stopped after these exchanges, in few runs
  reckoning : (x : TermTableau) (runs : ℕ) → IsStoppedAt (whole_terms p) runs es x → AreFewRuns (whole_terms p) l runs
      → OverflowsAt (whole_terms p) x (overflow s.wide) → IsBasisAt x s.basis → IsOverflowed p l es s
