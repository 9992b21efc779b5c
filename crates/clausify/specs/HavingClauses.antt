-- The clauses of a search of a problem in a log, over linear arithmetic too. Source: Tseitin 1968.
use Rattle.std.specs.Prelude.{◌≡◌, ◌<◌, List, [], ◌∷◌, ◌++◌, length, map, flat_map, All}
use Rattle.spec_proofs.specs.Resolution.{IsWithin}
use Rattle.spec_derivations.specs.Problems.{Problem}
use Rattle.spec_derivations.specs.Orders.{whole_clauses_of, whole_clauses}
use Rattle.term_core.specs.declared.ids.TermId.{TermId}
use Rattle.term_core.specs.Tables.{TableView, clause_at}
use Rattle.proof_log.specs.declared.premises.StepId.{StepId}
use Rattle.proof_log.specs.Logs.{Logged, stated}

-- The numbers are those of the clauses that a search of a problem begins with and of no others, and are as many: those
-- of any search, and those of the orders of equalities of numbers. Where clauses repeat, which of them have how many
-- numbers is left open.
pub record HasClauses (t : TableView) (log : List Logged) (p : Problem) (steps : List StepId) : Type 0 where
  -- each is a number of the log
  pub there : All (λ s. s.0 < length log) steps
  -- each clause of the search has a number
  pub base : IsWithin (whole_clauses p) (map (stated t log) steps)
  -- each number has a clause of the search
  pub only : IsWithin (map (stated t log) steps) (whole_clauses p)
  -- there are as many numbers as clauses of the search, equal ones counted each
  pub count : length steps ≡ length (whole_clauses p)

-- The numbers are, in order, those of the clause of each root alone, and of all clauses that say what these terms mean.
pub record HasClausesOf (t : TableView) (log : List Logged) (roots terms : List TermId) (steps : List StepId) : Type
    0 where
  -- each is a number of the log
  pub there : All (λ s. s.0 < length log) steps
  -- these are the clauses
  pub same : map (stated t log) steps
      ≡ map (λ u. u ∷ []) (clause_at t roots) ++ flat_map whole_clauses_of (clause_at t terms)
