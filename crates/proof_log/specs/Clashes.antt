-- Steps of a log whose clauses are false under literals that hold.
use Rattle.std.specs.Prelude.{◌<◌, List, length, Contains}
use Rattle.spec_sorts.specs.Literals.{Literal, literals_of}
use Rattle.term_core.specs.declared.ids.Lit.{Lit}
use Rattle.term_core.specs.Tables.{TableView, IsIn, clause_at, literal_at}
use Rattle.clause_literals.specs.Literals.{lit_complement}
use Rattle.proof_log.specs.declared.premises.StepId.{StepId}
use Rattle.proof_log.specs.Logs.{Logged, named, logged_at}

-- the literals of a step's clause, as the table means them
abbrev pub literals_in : TableView → List Logged → StepId → List Literal
literals_in t log s = literals_of (clause_at t (named (logged_at log s)))

-- A step's clause has a literal.
pub record HasLit (t : TableView) (log : List Logged) (s : StepId) (l : Lit) : Type 0 where
  -- its term is one of the table's
  pub in_table : IsIn t l.term
  -- what it means is in the clause
  pub there : Contains (literals_in t log s) (literal_at t l)

-- Each literal of a step's clause is false.
pub record IsClash (t : TableView) (log : List Logged) (held : List Lit) (s : StepId) : Type 0 where
  -- the step is one of the log's
  pub in_log : s.0 < length log
  -- the complements of its literals hold
  pub fails : (m : Lit) → HasLit t log s m → Contains held (lit_complement m)
