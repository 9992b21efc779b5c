-- That all parts come, or why not.
use Rattle.std.proofs.Common.{◌∙◌}
use Rattle.spec_arithmetic.specs.Contradictions.{parts_of}
use Rattle.linear_form.specs.Sums.{parts_meant, difference_meant}
use Rattle.linear_form.specs.Clauses.{numbered_meant}
use Rattle.linear_form.proofs.Joining.{fails_on, makes_err}
use Rattle.linear_form.proofs.ClauseSteps.{part_more, part_err, part_end, part_variables}
use Rattle.linear_form.proofs.clauses.make_parts.Goals as goal

pub returns-in_err-form-clause-comes : goal.returns-in_err-form-clause-comes
returns-in_err-form-clause-comes c =
    let t = c.args.table.now in
    let ps = c.args.numbers.now in
    let p = c.pair-item.result in
    let s = c.in_err-form.field-0.0 in
    let all = parts_of (numbered_meant t ps) in
    makes_err all c.from_residual.result s (λ v. parts_meant t v.items)
    (fails_on all (difference_meant t p.0) s
    (λ w e. c.loop-pair.invariant.comes ∙ part_err t c.loop-pair.parts.items ps c.loop-pair.pair-index p c.loop-pair-test.true c.pair-item.is w e) c.in_err-form.ensures.comes) c.from_residual.ensures.1

pub loop-pair-preserved : goal.loop-pair-preserved
loop-pair-preserved c =
    let t = c.args.table.now in
    let p = c.pair-item.result in
    record {
      comes = c.loop-pair.invariant.comes
          ∙ part_more t c.loop-pair.parts.items c.args.numbers.now c.loop-pair.pair-index p c.loop-pair-test.true c.pair-item.is c.push.new.self.items c.in_ok-form.form c.in_ok-push.ensures.items c.in_ok-form.ensures.comes;
      there = part_variables t c.loop-pair.parts.items c.push.new.self.items _ c.in_ok-push.ensures.items c.loop-pair.invariant.there c.in_ok-form.ensures.there;
    }

pub returns-clause-comes : goal.returns-clause-comes
returns-clause-comes c = c.loop-pair.invariant.comes ∙ part_end c.args.table.now c.loop-pair.parts.items c.args.numbers.now c.loop-pair.pair-index c.loop-pair-test.false
