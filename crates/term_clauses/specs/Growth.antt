-- Tables and logs that grow by clauses.
use Rattle.std.specs.Prelude.{◌≡◌, ◌+◌, List, ◌++◌, length, map, All, Contains}
use Rattle.std.specs.List.{range_with_len}
use Rattle.term_core.specs.declared.ids.TermId.{TermId}
use Rattle.term_core.specs.Tables.{TableView, declared_in, Extends}
use Rattle.proof_log.specs.declared.premises.StepId.{StepId}
use Rattle.proof_log.specs.Logs.{Logged, assumed, stepped, IsLogOf}

-- what it assumes, if it does, is one of these
abbrev pub AssumesOneOf : List TermId → Logged → Type 0
AssumesOneOf roots (assumed id) = Contains roots id
AssumesOneOf roots (stepped r ps qs c) = Unit {0}

-- The table has more terms and the log more clauses, of which those that are assumed are among the roots.
pub record Grows (roots : List TermId) (t u : TableView) (old new : List Logged) : Type 0 where
  -- the terms that were there have their numbers
  pub table : Extends t u
  -- the sorts and symbols are the same
  pub declared : declared_in u ≡ declared_in t
  -- the clauses that came
  pub more : List Logged
  -- they come after those that were there
  pub log : new ≡ old ++ more
  -- the log is right over the table as it is now
  pub right : IsLogOf u new
  -- what came and is assumed is a root
  pub assumes : All (AssumesOneOf roots) more

-- The numbers are those of all that came into the log, in order and each once.
pub record AreAllMade (old new : List Logged) (steps : List StepId) : Type 0 where
  -- what came is as much as the numbers
  pub count : length new ≡ length old + length steps
  -- the numbers follow one another, after those that were there
  pub order : map (λ s. s.0) steps ≡ range_with_len (length old) (length steps)
