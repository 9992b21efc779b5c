-- That the sum has the part, or why not.
use Rattle.std.proofs.lemmas.Result.{on_ok_weaker}
use Rattle.ratio128.specs.Meant.{fraction}
use Rattle.linear_form.specs.Meant.{form_meant}
use Rattle.linear_form.specs.Sums.{part_meant, added_part}
use Rattle.linear_form.proofs.Joining.{comes_err}
use Rattle.linear_form.proofs.SumSteps.{added_comes, added_fails}
use Rattle.linear_form.proofs.sums.add_part.Goals as goal

pub returns-in_err-scaled-clause-comes : goal.returns-in_err-scaled-clause-comes
returns-in_err-scaled-clause-comes c = λ t differ sum part.
    let turned = c.args.turned in
    let f = form_meant t c.args.sum.now in
    let p = part_meant t c.args.part.now in
    let s = c.in_err-scaled.field-0.0 in
    comes_err (added_part turned f p) c.from_residual.result s f (added_fails turned f p s (fraction c.weight_of-weight.result) c.weight_of-weight.ensures (c.in_err-scaled.ensures.comes t)) c.from_residual.ensures.1

pub returns-clause-comes : goal.returns-clause-comes
returns-clause-comes c = λ t differ sum part.
    added_comes c.args.turned (form_meant t c.args.sum.now) (form_meant t c.in_ok-scaled.scaled) (form_meant t c.combine.new.e) (part_meant t c.args.part.now) c.combine.result (fraction c.weight_of-weight.result) c.weight_of-weight.ensures
    (c.in_ok-scaled.ensures.comes t) (c.combine.ensures.comes t differ sum (c.in_ok-scaled.ensures.there t part))

pub returns-clause-there : goal.returns-clause-there
returns-clause-there c = on_ok_weaker c.combine.result (λ there t sum part. there t sum (c.in_ok-scaled.ensures.there t part)) c.combine.ensures.there
