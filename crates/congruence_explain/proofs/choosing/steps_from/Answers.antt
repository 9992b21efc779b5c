-- One number more.
use Rattle.std.proofs.Common.{◌<◌, ◌≤◌, ◌++◌, map, drop, length, refl, sym, ap, subst, arith}
use Rattle.std.specs.Prelude.{All}
use Rattle.std.proofs.lemmas.List.Elements.{All-nil, All-push}
use Rattle.proof_log.specs.declared.premises.StepId.{StepId}
use Rattle.proof_log.specs.Logs.{AreStepsOf, logged_at}
use Rattle.congruence_explain.proofs.Concluding.{numbers_more, numbers_all}
use Rattle.congruence_explain.proofs.choosing.steps_from.Goals as goal

pub steps-init : goal.steps-init
steps-init c = record {
  there = subst (AreStepsOf c.args.log.now) (sym c.new-steps.ensures.items) (All-nil (λ (s : StepId). s.0 < length c.args.log.now));
  later = subst (All (λ (s : StepId). c.args.from ≤ s.0)) (sym c.new-steps.ensures.items) (All-nil (λ (s : StepId). c.args.from ≤ s.0));
  all = ap (λ z. map (logged_at c.args.log.now) z ++ drop c.args.from c.args.log.now) c.new-steps.ensures.items;
}

pub steps-preserved : goal.steps-preserved
steps-preserved c =
    let log = c.args.log.now in
    let id : StepId = record { 0 = c.steps.number } in
    let low : c.steps.number < length log = omega (arith, c.len-number-end.ensures) in
    record {
      there = subst (AreStepsOf log) (sym c.in_ok-push.ensures.items) (All-push (λ (s : StepId). s.0 < length log) c.steps.steps.items id c.steps.invariant.there low);
      later = subst (All (λ (s : StepId). c.args.from ≤ s.0)) (sym c.in_ok-push.ensures.items) (All-push (λ (s : StepId). c.args.from ≤ s.0) c.steps.steps.items id c.steps.invariant.later (omega arith));
      all = numbers_more log c.steps.steps.items c.push.new.self.items c.steps.number c.args.from id refl low c.in_ok-push.ensures.items c.steps.invariant.all;
    }

pub returns : goal.returns
returns c = record {
  there = c.steps.invariant.there;
  later = c.steps.invariant.later;
  all = numbers_all c.args.log.now c.steps.steps.items c.steps.number c.args.from (omega (arith, c.len-number-end.ensures)) c.steps.invariant.all;
}
