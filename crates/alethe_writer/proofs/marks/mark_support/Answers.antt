-- The premises of one clause more are marked, or it is not marked itself.
use Rattle.std.proofs.Common.{◌≡◌, suc, ◌-◌, ◌<◌, length, subst, sym, ◌∙◌, arith}
use Rattle.std.proofs.lemmas.Bool.{false≢true}
use Rattle.proof_log.specs.Logs.{derivation_in}
use Rattle.alethe_writer.proofs.Closing.{IsClosedFrom, closing_skip, marked_below}
use Rattle.alethe_writer.proofs.Supports.{IsIt, IsPremise, support_start, support_more, support_end}
use Rattle.alethe_writer.proofs.marks.mark_support.Goals as goal

pub steps-init : goal.steps-init
steps-init c = record { so_far = λ t. support_start (derivation_in t c.args.log.now) c.args.step.0 c.args.marks.now c.mark_steps.new.marks c.requires.none c.mark_steps.ensures; as_many = c.mark_steps.ensures.same_length }

pub steps-preserved-then-marks-number : goal.steps-preserved-then-marks-number
steps-preserved-then-marks-number c =
    let log = c.args.log.now in
    let n = c.steps.number - 1 in
    let next : c.steps.number ≡ suc n = omega (arith, c.steps-test.true) in
    let below = marked_below c.steps.marks n c.if-marks-number.true in
    let within : n < length log = omega (arith, below, c.steps.invariant.as_many, c.requires.up_to, c.requires.there) in
    record {
      so_far = λ t. support_more t log c.args.step.0 n c.steps.marks c.mark_premises.new.marks c.premises_are_earlier.ensures within (subst (λ k. IsClosedFrom (IsIt c.args.step.0) (IsPremise (derivation_in t log)) k c.steps.marks) next (c.steps.invariant.so_far t)) c.if-marks-number.true c.mark_premises.ensures;
      as_many = c.mark_premises.ensures.same_length ∙ c.steps.invariant.as_many;
    }

pub steps-preserved : goal.steps-preserved
steps-preserved c =
    let log = c.args.log.now in
    let n = c.steps.number - 1 in
    let next : c.steps.number ≡ suc n = omega (arith, c.steps-test.true) in
    record {
      so_far = λ t. closing_skip (IsIt c.args.step.0) (IsPremise (derivation_in t log)) n c.steps.marks (subst (λ k. IsClosedFrom (IsIt c.args.step.0) (IsPremise (derivation_in t log)) k c.steps.marks) next (c.steps.invariant.so_far t)) (λ e. false≢true (sym c.if-marks-number.false ∙ e));
      as_many = c.steps.invariant.as_many;
    }

pub returns : goal.returns
returns c = λ t.
    let end : c.steps.number ≡ 0 = omega (arith, c.steps-test.false) in
    support_end (derivation_in t c.args.log.now) c.args.step.0 c.steps.marks (c.steps.invariant.as_many ∙ c.requires.up_to) (subst (λ k. IsClosedFrom (IsIt c.args.step.0) (IsPremise (derivation_in t c.args.log.now)) k c.steps.marks) end (c.steps.invariant.so_far t))
