-- What passes over all premises come to.
use Rattle.std.specs.Prelude.{◌≡◌, ◌<◌, List, ◌∷◌, [], ◌++◌, length, Contains}
use Rattle.term_core.specs.declared.ids.Lit.{Lit}
use Rattle.clause_literals.specs.declared.status.ClauseStatus.{ClauseStatus}
use Rattle.clause_literals.specs.declared.status.ClauseStatus.TheVariants.{Falsified, Unit as Single, Unresolved}
use Rattle.clause_literals.specs.declared.status.ClauseStatus.TheVariants.{Satisfied}
use Rattle.clause_literals.specs.declared.scan.Pass.{Pass}
use Rattle.clause_literals.specs.declared.scan.Pass.TheVariants.{Conflict, Added, Same}
use Rattle.clause_literals.specs.Statuses.{IsFalsified, IsUnit, IsUnresolved, IsSatisfied, PropagatesNothing}
use Rattle.clause_literals.specs.Propagation.{LeadsToConflict, Advances}

-- the status of the clause, and what is held then
abbrev pub Scans : List Lit → List Lit → List Lit → ClauseStatus → Type 0
Scans clause old new Falsified = IsFalsified old clause
Scans clause old new (Single l) = IsUnit old clause l × (new ≡ old ++ l ∷ [])
Scans clause old new Unresolved = IsUnresolved old clause × (new ≡ old)
Scans clause old new Satisfied = IsSatisfied old clause × (new ≡ old)

-- the clauses looked at have given a literal, or nothing follows from them
abbrev pub Moves : List (List Lit) → List (List Lit) → List Lit → List Lit → Pass → Type 0
Moves premises seen old new Conflict = LeadsToConflict premises old
Moves premises seen old new Added = Advances premises old new × (length old < length new)
Moves premises seen old new Same = (new ≡ old) × ((c : List Lit) → Contains seen c → PropagatesNothing new c)
