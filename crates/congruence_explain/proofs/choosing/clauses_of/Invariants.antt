-- The steps up to here.
use Rattle.std.proofs.Common.{map, take}
use Rattle.term_core.specs.Tables.{clause_at}
use Rattle.clause_literals.specs.Literals.{lists}
use Rattle.rule_bool.specs.Resolvents.{MeansEach}
use Rattle.proof_log.specs.Logs.{clauses_in}
use Rattle.congruence_explain.proofs.choosing.clauses_of.Given as goal

abbrev pub invariant-steps : goal.invariant-steps
invariant-steps l = MeansEach l.table (lists l.clauses.items) (map (clause_at l.table) (take l.step-index (clauses_in l.log l.steps)))
