-- That the sum cannot hold, or what comes then.
use Rattle.std.proofs.Common.{true, false}
use Rattle.linear_form.specs.Meant.{form_meant}
use Rattle.linear_form.specs.Sums.{parts_meant, judged_turned}
use Rattle.linear_form.proofs.SumSteps.{turned_taken, turned_fails, test_is, judges_failed}
use Rattle.linear_form.proofs.sums.judge_turned.Goals as goal

pub returns-in_err-sum : goal.returns-in_err-sum
returns-in_err-sum c = λ t differ there.
    let ps = parts_meant t c.args.parts.now in
    let s = c.in_err-sum.field-0.0 in
    judges_failed (judged_turned ps) c.from_residual.result s c.from_residual.ensures.1 (turned_fails ps s (c.in_err-sum.ensures t differ there))

pub returns-then-cannot_hold : goal.returns-then-cannot_hold
returns-then-cannot_hold c = λ t differ there.
    let f = form_meant t c.in_ok-sum.sum in
    turned_taken (parts_meant t c.args.parts.now) f true (c.in_ok-sum.ensures t differ there) (test_is t c.args.parts.now c.is_strict.result true f (c.is_strict.ensures t) (c.if-cannot_hold.ensures t))

pub returns : goal.returns
returns c = λ t differ there.
    let f = form_meant t c.in_ok-sum.sum in
    turned_taken (parts_meant t c.args.parts.now) f false (c.in_ok-sum.ensures t differ there) (test_is t c.args.parts.now c.is_strict.result false f (c.is_strict.ensures t) (c.if-cannot_hold.ensures t))
