-- What propagation finds in clauses, under the literals that it holds.
use Rattle.std.specs.Prelude.{◌≢◌, ◌⊎◌, List, Contains}
use Rattle.term_core.specs.declared.ids.Lit.{Lit}
use Rattle.clause_literals.specs.declared.status.ClauseStatus.{ClauseStatus}
use Rattle.clause_literals.specs.declared.status.ClauseStatus.TheVariants.{Falsified, Unit as Single, Unresolved}
use Rattle.clause_literals.specs.declared.status.ClauseStatus.TheVariants.{Satisfied}
use Rattle.clause_literals.specs.Literals.{lit_complement}

-- each literal of the clause is false
abbrev pub IsFalsified : List Lit → List Lit → Type 0
IsFalsified held clause = (m : Lit) → Contains clause m → Contains held (lit_complement m)

-- this literal of the clause is open, and each other one is false
pub record IsUnit (held clause : List Lit) (l : Lit) : Type 0 where
  pub there : Contains clause l
  pub not_held : Contains held l → ⊥
  pub not_false : Contains held (lit_complement l) → ⊥
  pub others_false : (m : Lit) → Contains clause m → m ≢ l → Contains held (lit_complement m)

-- two different literals of the clause are open
pub record IsUnresolved (held clause : List Lit) : Type 0 where
  pub one : Lit
  pub other : Lit
  pub has_one : Contains clause one
  pub has_other : Contains clause other
  pub differ : one ≢ other
  pub one_open : Contains held (lit_complement one) → ⊥
  pub other_open : Contains held (lit_complement other) → ⊥

-- a literal of the clause holds
pub record IsSatisfied (held clause : List Lit) : Type 0 where
  pub literal : Lit
  pub there : Contains clause literal
  pub holds : Contains held literal

-- nothing follows from the clause
abbrev pub PropagatesNothing : List Lit → List Lit → Type 0
PropagatesNothing held clause = IsSatisfied held clause ⊎ IsUnresolved held clause

-- the status of the clause
abbrev pub HasStatus : List Lit → List Lit → ClauseStatus → Type 0
HasStatus held clause Falsified = IsFalsified held clause
HasStatus held clause (Single l) = IsUnit held clause l
HasStatus held clause Unresolved = IsUnresolved held clause
HasStatus held clause Satisfied = IsSatisfied held clause
