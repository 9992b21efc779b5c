-- A lemma comes after those that are there.
use Rattle.std.proofs.Common.{◌<◌, length, Option, refl, sym, subst, arith}
use Rattle.std.specs.Prelude.{IfSome}
use Rattle.std.proofs.lemmas.List.Elements.{All-push}
use Rattle.proof_log.specs.declared.premises.StepId.{StepId}
use Rattle.proof_log.specs.Logs.{AreStepsOf}
use Rattle.proof_log.specs.Theories.{terms_watched}
use Rattle.simplex.proofs.Hinting.{nothing_came, ready, next_derives, next_steps}
use Rattle.simplex.proofs.simplex.Simplex.lemmas.Goals as goal

pub hints-init : goal.hints-init
hints-init c =
    let t = c.args.table.now in
    let log = c.args.log.now in (
      nothing_came (terms_watched t c.args.self.now.theory) t t log log c.requires.log refl refl,
      subst (AreStepsOf log) (sym c.new-steps.ensures.items) (λ k d lt. absurd (omega (arith, lt))),
    )

pub lemma-requires : goal.lemma-requires
lemma-requires c = (
  refl,
  ready c.args.table.now c.hints.table c.args.self.now c.args.log.now c.hints.log c.hints.steps.items c.requires.over c.requires.with c.hints.invariant,
)

pub returns-in_err-step-clause-derives : goal.returns-in_err-step-clause-derives
returns-in_err-step-clause-derives c =
    next_derives c.args.table.now c.hints.table c.args.self.now c.args.log.now c.hints.log c.hints.steps.items c.requires.over c.requires.with c.hints.invariant
    c.lemma.new.table c.lemma.new.log c.lemma.ensures.derives

pub hints-preserved-in_default : goal.hints-preserved-in_default
hints-preserved-in_default c = (
  next_derives c.args.table.now c.hints.table c.args.self.now c.args.log.now c.hints.log c.hints.steps.items c.requires.over c.requires.with c.hints.invariant
      c.lemma.new.table c.lemma.new.log c.lemma.ensures.derives,
  next_steps c.args.table.now c.hints.table c.args.self.now c.args.log.now c.hints.log c.hints.steps.items c.requires.over c.requires.with c.hints.invariant
      c.lemma.new.table c.lemma.new.log c.lemma.ensures.derives,
)

pub returns-in_err-push-clause-derives : goal.returns-in_err-push-clause-derives
returns-in_err-push-clause-derives c =
    next_derives c.args.table.now c.hints.table c.args.self.now c.args.log.now c.hints.log c.hints.steps.items c.requires.over c.requires.with c.hints.invariant
    c.lemma.new.table c.lemma.new.log c.lemma.ensures.derives

pub hints-preserved : goal.hints-preserved
hints-preserved c =
    let log = c.lemma.new.log in
    let own = subst (λ (o : Option StepId). IfSome o (λ (s : StepId). s.0 < length log)) c.in-Some.is c.in_ok-step.ensures.step in (
      next_derives c.args.table.now c.hints.table c.args.self.now c.args.log.now c.hints.log c.hints.steps.items c.requires.over c.requires.with c.hints.invariant
          c.lemma.new.table log c.lemma.ensures.derives,
      subst (AreStepsOf log) (sym c.in_ok-push.ensures.items)
          (All-push (λ (s : StepId). s.0 < length log) c.hints.steps.items c.in-Some.step
          (next_steps c.args.table.now c.hints.table c.args.self.now c.args.log.now c.hints.log c.hints.steps.items c.requires.over c.requires.with c.hints.invariant
          c.lemma.new.table log c.lemma.ensures.derives) own),
    )
