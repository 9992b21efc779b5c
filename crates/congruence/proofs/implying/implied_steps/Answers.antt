-- One term more.
use Rattle.std.proofs.Common.{◌<◌, length, refl, sym, ◌∙◌, ap, subst}
use Rattle.std.proofs.lemmas.List.Elements.{All-nil}
use Rattle.proof_log.specs.declared.premises.StepId.{StepId}
use Rattle.proof_log.specs.Logs.{AreStepsOf}
use Rattle.proof_log.specs.Theories.{derived, terms_watched, IsTheoryOver}
use Rattle.proof_log.proofs.Composed.{lemmas_none, over_after}
use Rattle.congruence_relation.specs.Relation.{AreFactsOf}
use Rattle.congruence_relation.proofs.Kept.{of_more}
use Rattle.congruence_closure.specs.Closure.{ClosureState}
use Rattle.congruence.specs.Views.{theory_of}
use Rattle.congruence.proofs.Views.{same_view}
use Rattle.congruence.proofs.Shown.{more_lemmas}
use Rattle.congruence.proofs.implying.implied_steps.Goals as goal

pub returns-in_err-terms-clause-derives : goal.returns-in_err-terms-clause-derives
returns-in_err-terms-clause-derives c =
    let t = c.args.table.now in
    lemmas_none (terms_watched t (theory_of c.args.closure.now)) (derived t c.args.log.now) c.requires.log

pub terms-init : goal.terms-init
terms-init c =
    let t = c.args.table.now in
    record {
      now = refl;
      marks = refl;
      derives = lemmas_none (terms_watched t (theory_of c.args.closure.now)) (derived t c.args.log.now) c.requires.log;
      steps = subst (AreStepsOf c.args.log.now) (sym c.new-steps.ensures.items) (All-nil (λ (s : StepId). s.0 < length c.args.log.now));
    }

pub imply-requires : goal.imply-requires
imply-requires c =
    let v = c.args.closure.now in
    let w = c.terms.closure in
    let t = c.args.table.now in
    let u = c.terms.table in
    let kept = c.terms.invariant in
    let view = same_view v w (ap (λ (s : ClosureState). s.facts) kept.now) kept.marks in
    record {
      over = subst (IsTheoryOver u) (sym view) (over_after t u kept.derives.table (theory_of v) c.requires.over);
      with = subst (λ (s : ClosureState). AreFactsOf u s.facts) (sym kept.now) (of_more t u kept.derives.table v.now.facts c.requires.with);
      log = kept.derives.right;
      held = ap (λ (s : ClosureState). s.facts.held) kept.now ∙ c.requires.held;
      steps = kept.steps;
    }

pub terms-preserved : goal.terms-preserved
terms-preserved c =
    let old = derived c.args.table.now c.args.log.now in
    let now = derived c.terms.table c.terms.log in
    let new = derived c.imply.new.table c.imply.new.log in
    let kept = c.terms.invariant in
    let came = c.in_ok-imply.ensures in
    record {
      now = came.now ∙ kept.now;
      marks = came.marks ∙ kept.marks;
      derives = more_lemmas c.args.closure.now c.terms.closure kept.now kept.marks old now new c.requires.over kept.derives came.derives;
      steps = came.steps;
    }

pub returns-in_err-imply-clause-derives : goal.returns-in_err-imply-clause-derives
returns-in_err-imply-clause-derives c =
    let old = derived c.args.table.now c.args.log.now in
    let now = derived c.terms.table c.terms.log in
    let new = derived c.imply.new.table c.imply.new.log in
    let kept = c.terms.invariant in
    more_lemmas c.args.closure.now c.terms.closure kept.now kept.marks old now new c.requires.over kept.derives c.in_err-imply.ensures.derives

pub returns-clause-derives : goal.returns-clause-derives
returns-clause-derives c = c.terms.invariant.derives

pub returns-clause-steps : goal.returns-clause-steps
returns-clause-steps c = c.terms.invariant.steps
