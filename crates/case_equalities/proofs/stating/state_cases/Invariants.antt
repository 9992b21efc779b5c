-- The batch goes on, by the steps up to here.
use Rattle.proof_log.specs.Theories.{derived}
use Rattle.case_equalities.specs.Stating.{GoesOn, AreStepsIn}
use Rattle.case_equalities.proofs.stating.state_cases.Given as goal

abbrev pub ghost-cases_of : goal.ghost-cases_of
ghost-cases_of g a = g.batch

abbrev pub ghost-log_alone : goal.ghost-log_alone
ghost-log_alone g a = g.batch

abbrev pub ghost-state_case : goal.ghost-state_case
ghost-state_case g a = g.batch

abbrev pub invariant-chains : goal.invariant-chains
invariant-chains g l = record {
  goes : GoesOn g.batch (derived l.fn.table l.fn.log) (derived l.table l.log);
  steps : AreStepsIn g.batch l.log l.steps.items;
}
