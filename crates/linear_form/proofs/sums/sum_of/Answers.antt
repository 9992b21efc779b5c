-- That the sum has all parts, or why not.
use Rattle.std.proofs.Common.{sym, ap, ◌∙◌}
use Rattle.spec_arithmetic.specs.Forms.{Form, constant_form}
use Rattle.spec_arithmetic.specs.Contradictions.{sum_of, summed}
use Rattle.linear_form.specs.Meant.{form_meant}
use Rattle.linear_form.specs.Sums.{part_meant, parts_meant, added_part}
use Rattle.linear_form.proofs.Joining.{fails_on, makes_err}
use Rattle.linear_form.proofs.SumSteps.{summed_more, summed_err, summed_end, part_variables}
use Rattle.linear_form.proofs.sums.sum_of.Goals as goal

pub loop-part-init : goal.loop-part-init
loop-part-init c = record {
  comes = λ t differ there. ap (λ (f : Form). summed c.args.turned f (parts_meant t c.args.parts.now)) (sym (c.in_ok-sum.ensures.comes t ∙ ap constant_form c.zero.ensures));
  there = λ t differ there. c.in_ok-sum.ensures.there t;
}

pub returns-in_err-add_part : goal.returns-in_err-add_part
returns-in_err-add_part c = λ t differ there.
    let ps = c.args.parts.now in
    let at = c.loop-part.part-index in
    let p = c.part-item.result in
    let s = c.in_err-add_part.field-0.0 in
    let f = form_meant t c.loop-part.sum in
    let all = sum_of c.args.turned (parts_meant t ps) in
    makes_err all c.from_residual-in_err-add_part.result s (form_meant t)
    (fails_on all (added_part c.args.turned f (part_meant t p)) s
    (λ w e. c.loop-part.invariant.comes t differ there ∙ summed_err t ps at p c.loop-part-test.true c.part-item.is c.args.turned f w e)
    (c.in_err-add_part.ensures.comes t differ (c.loop-part.invariant.there t differ there) (part_variables t ps at p c.loop-part-test.true c.part-item.is there))) c.from_residual-in_err-add_part.ensures.1

pub loop-part-preserved : goal.loop-part-preserved
loop-part-preserved c =
    let ps = c.args.parts.now in
    let at = c.loop-part.part-index in
    let p = c.part-item.result in
    record {
      comes = λ t differ there. c.loop-part.invariant.comes t differ there
          ∙ summed_more t ps at p c.loop-part-test.true c.part-item.is c.args.turned (form_meant t c.loop-part.sum) (form_meant t c.add_part.new.sum)
          (c.in_ok-add_part.ensures.comes t differ (c.loop-part.invariant.there t differ there) (part_variables t ps at p c.loop-part-test.true c.part-item.is there));
      there = λ t differ there. c.in_ok-add_part.ensures.there t (c.loop-part.invariant.there t differ there) (part_variables t ps at p c.loop-part-test.true c.part-item.is there);
    }

pub returns : goal.returns
returns c = λ t differ there. c.loop-part.invariant.comes t differ there ∙ summed_end t c.args.parts.now c.loop-part.part-index c.args.turned (form_meant t c.loop-part.sum) c.loop-part-test.false
