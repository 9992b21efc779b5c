-- The numbers up to here.
use Rattle.std.proofs.Common.{◌≡◌, ◌≤◌, ◌++◌, map, drop}
use Rattle.std.specs.Prelude.{All}
use Rattle.proof_log.specs.declared.premises.StepId.{StepId}
use Rattle.proof_log.specs.Logs.{AreStepsOf, logged_at}
use Rattle.congruence_explain.proofs.choosing.steps_from.Given as goal

abbrev pub invariant-steps : goal.invariant-steps
invariant-steps l = record {
  there : AreStepsOf l.log l.steps.items;
  later : All (λ (s : StepId). l.from ≤ s.0) l.steps.items;
  all : map (logged_at l.log) l.steps.items ++ drop l.number l.log ≡ drop l.from l.log;
}
