-- The numbers of the terms that a search speaks of, over linear arithmetic too.
use Rattle.std.specs.Prelude.{◌≢◌, ◌⊎◌, List, All, Contains}
use Rattle.std.specs.List.{AllPairs}
use Rattle.spec_sorts.specs.Terms.{Term}
use Rattle.spec_sorts.specs.Subsets.{AreAmong}
use Rattle.spec_derivations.specs.Problems.{Problem}
use Rattle.spec_derivations.specs.Orders.{whole_terms}
use Rattle.term_core.specs.declared.ids.TermId.{TermId}
use Rattle.term_core.specs.Tables.{TableView, clause_at}
use Rattle.proof_log.specs.Theories.{IsTermIn}
use Rattle.term_clauses.specs.SpokenTerms.{AreRising}

-- The numbers are those of the terms that a search of a problem speaks of, each once: those of any search, and the
-- orders of its equalities of numbers.
pub record AreSearchTerms (t : TableView) (p : Problem) (ids : List TermId) : Type 0 where
  -- each is the number of a term over the table's symbols
  pub there : All (IsTermIn t) ids
  -- each term of the search has a number
  pub each : AreAmong (whole_terms p) (clause_at t ids)
  -- each number has a term of the search
  pub only : AreAmong (clause_at t ids) (whole_terms p)
  -- no number stands twice
  pub once : AllPairs (λ (i j : TermId). i ≢ j) ids

-- The numbers are those of the terms that a search of a problem speaks of, but for known ones, in ascending order.
pub record AreNewTerms (t : TableView) (p : Problem) (known ids : List TermId) : Type 0 where
  -- each is the number of a term over the table's symbols
  pub there : All (IsTermIn t) ids
  -- each term of the search has a number, or is known
  pub each : (u : Term) → Contains (whole_terms p) u → Contains (clause_at t known) u ⊎ Contains (clause_at t ids) u
  -- each number has a term of the search
  pub only : AreAmong (clause_at t ids) (whole_terms p)
  -- which is not known
  pub new : (id : TermId) → Contains ids id → Contains known id → ⊥
  -- a later number is greater
  pub rising : AreRising ids
