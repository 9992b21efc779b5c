-- Numbers of the terms that a search speaks of.
use Rattle.std.specs.Prelude.{◌≡◌, ℕ, ◌<◌, List, ◌++◌, length, get_or}
use Rattle.spec_sorts.specs.Terms.{Term}
use Rattle.spec_sorts.specs.Subsets.{AreAmong}
use Rattle.spec_derivations.specs.Problems.{Problem}
use Rattle.spec_derivations.specs.Base.{spoken_terms}
use Rattle.spec_derivations.specs.Examples.{speaking}
use Rattle.term_core.specs.declared.ids.TermId.{TermId}
use Rattle.term_core.specs.Tables.{TableView, clause_at}
use Rattle.proof_log.specs.Logs.{AreFormulasIn}

-- what no place of a list of numbers means
abbrev pub no_id : TermId
no_id = record { 0 = 0 }

-- a later number is greater
abbrev pub AreRising : List TermId → Type 0
AreRising ids = (i j : ℕ) → i < j → j < length ids → (get_or ids i no_id).0 < (get_or ids j no_id).0

-- the problem that asserts the terms of numbers, with those of others besides them
abbrev pub problem_in : TableView → List TermId → List TermId → Problem
problem_in t roots interface = speaking (clause_at t roots) (clause_at t interface)

-- The numbers are those of formulas: the terms of which a search of a problem speaks with their subterms.
pub record AreSpoken (t : TableView) (p : Problem) (ids : List TermId) : Type 0 where
  -- each is the number of a formula
  pub formulas : AreFormulasIn t ids
  -- each such term has a number
  pub each : AreAmong (spoken_terms p) (clause_at t ids)
  -- each number has such a term
  pub only : AreAmong (clause_at t ids) (spoken_terms p)

-- All numbers are those of formulas: after the numbers that there were come those of these terms.
pub record HasMore (t u : TableView) (ids all : List TermId) (more : List Term) : Type 0 where
  -- each is the number of a formula
  pub formulas : AreFormulasIn u all
  -- the terms that there were, and these
  pub same : clause_at u all ≡ clause_at t ids ++ more
