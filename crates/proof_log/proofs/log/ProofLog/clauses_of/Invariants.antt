-- The clauses up to here, whose numbers are the log's.
use Rattle.std.proofs.Common.{◌≡◌, take}
use Rattle.proof_log.specs.Logs.{AreStepsOf, clauses_in}
use Rattle.proof_log.proofs.log.ProofLog.clauses_of.Given as goal

abbrev pub invariant-loop-step : goal.invariant-loop-step
invariant-loop-step l = record {
  there : AreStepsOf l.self (take l.step-index l.steps);
  same : l.clauses.items ≡ clauses_in l.self (take l.step-index l.steps);
}
