-- One number more.
use Rattle.std.proofs.Common.{◌+◌, ◌++◌, drop, ap, ◌∙◌, arith}
use Rattle.spec_proof_texts.specs.Plans.{counted_inferences}
use Rattle.proof_log.specs.Logs.{derivation_in, logged_at}
use Rattle.alethe_writer.proofs.Counted.{inferences_on, inferences_done, nexts_below}
use Rattle.alethe_writer.proofs.plans.number_steps.Goals as goal

pub steps-preserved : goal.steps-preserved
steps-preserved c =
    let lt = c.steps-test.true in
    let log = c.args.log.now in
    let support = c.args.support.now in
    let below = nexts_below (logged_at log (record { 0 = c.steps.number })) _ c.steps.assumes.next c.steps.steps.next c.number_step-given.result c.number_step-given.new.assumes.next c.number_step-given.new.steps.next (c.steps.number + 1) c.number_step-given.ensures c.steps.invariant.assumes_below c.steps.invariant.steps_below in
    record {
      so_far = λ t. ap (λ out. out ++ counted_inferences c.number_step-given.new.assumes.next c.number_step-given.new.steps.next (drop (c.steps.number + 1) support) (drop (c.steps.number + 1) (derivation_in t log))) c.in_ok-push.ensures.items ∙ inferences_on t (counted_inferences 1 1 support (derivation_in t log)) c.steps.numbers.items c.steps.assumes.next c.steps.steps.next c.number_step-given.new.assumes.next c.number_step-given.new.steps.next support log c.steps.number c.number_step-given.result lt (omega (arith, lt, c.requires)) c.number_step-given.ensures (c.steps.invariant.so_far t);
      assumes_below = below.0;
      steps_below = below.1;
    }

pub returns : goal.returns
returns c = λ t. inferences_done c.steps.assumes.next c.steps.steps.next c.steps.numbers.items (counted_inferences 1 1 c.args.support.now (derivation_in t c.args.log.now)) c.args.support.now (derivation_in t c.args.log.now) c.steps.number (omega (arith, c.steps-test.false)) (c.steps.invariant.so_far t)
