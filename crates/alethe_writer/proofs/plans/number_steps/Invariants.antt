-- The numbers up to here, and those to come.
use Rattle.std.proofs.Common.{◌≡◌, ◌+◌, ◌≤◌, ◌++◌, drop}
use Rattle.spec_proof_texts.specs.Plans.{counted_inferences}
use Rattle.term_core.specs.Tables.{TableView}
use Rattle.proof_log.specs.Logs.{derivation_in}
use Rattle.alethe_writer.proofs.plans.number_steps.Given as goal

abbrev pub invariant-steps : goal.invariant-steps
invariant-steps l = record {
  so_far : (t : TableView) → l.numbers.items ++ counted_inferences l.assumes.next l.steps.next (drop l.number l.support) (drop l.number (derivation_in t l.log)) ≡ counted_inferences 1 1 l.support (derivation_in t l.log);
  assumes_below : l.assumes.next ≤ l.number + 1;
  steps_below : l.steps.next ≤ l.number + 1;
}
