-- What came are lemmas, and what was listed are steps still.
use Rattle.std.proofs.Common.{◌<◌, length, sym, subst}
use Rattle.std.proofs.lemmas.List.Elements.{All-push}
use Rattle.std.specs.Prelude.{Option, IfSome}
use Rattle.proof_log.specs.declared.premises.StepId.{StepId}
use Rattle.proof_log.specs.Logs.{AreStepsOf}
use Rattle.proof_log.specs.Theories.{derived, terms_watched}
use Rattle.proof_log.proofs.Composed.{lemmas_none, steps_after}
use Rattle.congruence.specs.Views.{theory_of}
use Rattle.congruence.proofs.implying.imply.Goals as goal

pub returns-in_default-clause-derives : goal.returns-in_default-clause-derives
returns-in_default-clause-derives c =
    let t = c.args.table.now in
    lemmas_none (terms_watched t (theory_of c.args.closure.now)) (derived t c.args.log.now) c.requires.log

pub returns-in_err-step-clause-steps : goal.returns-in_err-step-clause-steps
returns-in_err-step-clause-steps c =
    let t = c.args.table.now in
    steps_after (terms_watched t (theory_of c.args.closure.now)) (derived t c.args.log.now) (derived c.show.new.table c.show.new.log) c.in_err-step.ensures.derives c.args.steps.now.items c.requires.steps

pub returns-in_err-push-clause-steps : goal.returns-in_err-push-clause-steps
returns-in_err-push-clause-steps c =
    let t = c.args.table.now in
    subst (AreStepsOf c.show.new.log) (sym c.in_err-push.ensures.items)
    (steps_after (terms_watched t (theory_of c.args.closure.now)) (derived t c.args.log.now) (derived c.show.new.table c.show.new.log) c.in_ok-step.ensures.derives c.args.steps.now.items c.requires.steps)

pub returns-clause-steps : goal.returns-clause-steps
returns-clause-steps c =
    let t = c.args.table.now in
    let log = c.show.new.log in
    let kept = steps_after (terms_watched t (theory_of c.args.closure.now)) (derived t c.args.log.now) (derived c.show.new.table log) c.in_ok-step.ensures.derives c.args.steps.now.items c.requires.steps in
    let there = subst (λ (found : Option StepId). IfSome found (λ step. step.0 < length log)) c.in-Some-2.is c.in_ok-step.ensures.there in
    subst (AreStepsOf log) (sym c.in_ok-push.ensures.items) (All-push (λ (s : StepId). s.0 < length log) c.args.steps.now.items c.in-Some-2.step kept there)

pub returns-in_default-2-clause-steps : goal.returns-in_default-2-clause-steps
returns-in_default-2-clause-steps c =
    let t = c.args.table.now in
    steps_after (terms_watched t (theory_of c.args.closure.now)) (derived t c.args.log.now) (derived c.show.new.table c.show.new.log) c.in_ok-step.ensures.derives c.args.steps.now.items c.requires.steps
