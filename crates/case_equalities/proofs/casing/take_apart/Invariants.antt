-- The batch goes on, by the steps up to here.
use Rattle.proof_log.specs.Theories.{derived}
use Rattle.case_equalities.specs.Stating.{GoesOn, AreStepsIn}
use Rattle.case_equalities.proofs.casing.take_apart.Given as goal

abbrev pub ghost-log_alone : goal.ghost-log_alone
ghost-log_alone g a = g.batch

abbrev pub invariant-equalities : goal.invariant-equalities
invariant-equalities g l = record {
  goes : GoesOn g.batch (derived l.table l.fn.log) (derived l.table l.log);
  steps : AreStepsIn g.batch l.log l.steps.items;
}
