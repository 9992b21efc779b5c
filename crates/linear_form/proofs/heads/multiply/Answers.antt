-- The form without variables is the factor.
use Rattle.std.proofs.Common.{◌≡◌, Ok, subst}
use Rattle.spec_arithmetic.specs.Forms.{scaled}
use Rattle.linear_form.specs.Meant.{form_meant}
use Rattle.linear_form.specs.Making.{FailsBy}
use Rattle.linear_form.proofs.Joining.{makes_err}
use Rattle.linear_form.proofs.HeadSteps.{meant_empty, meant_other, left_ok, left_fails, right_ok, right_fails, neither_ok}
use Rattle.linear_form.proofs.heads.multiply.Goals as goal

pub returns-in_err-product-clause-comes : goal.returns-in_err-product-clause-comes
returns-in_err-product-clause-comes c t =
    let f = form_meant t c.args.left.now in
    let g = form_meant t c.args.right.now in
    let s = c.in_err-product.field-0.0 in
    makes_err _ c.from_residual.result s _
    (left_fails f g s (meant_empty t c.args.left.now c.if-is_constant.ensures) (subst (λ x. FailsBy (scaled x g) s) c.constant-factor.ensures (c.in_err-product.ensures.comes t)))
    c.from_residual.ensures.1

pub returns-in_err-product-2-clause-comes : goal.returns-in_err-product-2-clause-comes
returns-in_err-product-2-clause-comes c t =
    let f = form_meant t c.args.left.now in
    let g = form_meant t c.args.right.now in
    let s = c.in_err-product-2.field-0.0 in
    makes_err _ c.from_residual-in_err-product-2.result s _
    (right_fails f g s (meant_other t c.args.left.now c.if-is_constant.ensures) (meant_empty t c.args.right.now c.if-is_constant-2.ensures)
    (subst (λ x. FailsBy (scaled x f) s) c.constant-factor-then-is_constant-2.ensures (c.in_err-product-2.ensures.comes t)))
    c.from_residual-in_err-product-2.ensures.1

pub returns-in_ok-product-clause-comes : goal.returns-in_ok-product-clause-comes
returns-in_ok-product-clause-comes c t =
    let f = form_meant t c.args.left.now in
    let g = form_meant t c.args.right.now in
    let h = form_meant t c.in_ok-product.product in
    left_ok f g h (meant_empty t c.args.left.now c.if-is_constant.ensures) (subst (λ x. scaled x g ≡ Ok h) c.constant-factor.ensures (c.in_ok-product.ensures.comes t))

pub returns-in_ok-product-2-clause-comes : goal.returns-in_ok-product-2-clause-comes
returns-in_ok-product-2-clause-comes c t =
    let f = form_meant t c.args.left.now in
    let g = form_meant t c.args.right.now in
    let h = form_meant t c.in_ok-product-2.product in
    right_ok f g h (meant_other t c.args.left.now c.if-is_constant.ensures) (meant_empty t c.args.right.now c.if-is_constant-2.ensures)
    (subst (λ x. scaled x f ≡ Ok h) c.constant-factor-then-is_constant-2.ensures (c.in_ok-product-2.ensures.comes t))

pub returns-else-is_constant-2-clause-comes : goal.returns-else-is_constant-2-clause-comes
returns-else-is_constant-2-clause-comes c t = neither_ok (form_meant t c.args.left.now) (form_meant t c.args.right.now) (meant_other t c.args.left.now c.if-is_constant.ensures) (meant_other t c.args.right.now c.if-is_constant-2.ensures)
