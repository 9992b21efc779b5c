-- A divisor with variables or 0 leaves the term as a variable.
use Rattle.std.proofs.Common.{sym, ap, ◌∙◌}
use Rattle.spec_arithmetic.specs.Signs.{is_zero}
use Rattle.spec_arithmetic.specs.Forms.{shared_out}
use Rattle.spec_arithmetic.proofs.Zero.{not_zero}
use Rattle.ratio128.specs.Meant.{fraction}
use Rattle.term_core.specs.Tables.{term_at}
use Rattle.linear_form.specs.Meant.{form_meant}
use Rattle.linear_form.proofs.FormSteps.{makes_as}
use Rattle.linear_form.proofs.HeadSteps.{variable_made, meant_empty, meant_other, quotient_variables, quotient_zero, quotient_number}
use Rattle.linear_form.proofs.heads.divide.Goals as goal

pub returns-then-not-is_constant-clause-comes : goal.returns-then-not-is_constant-clause-comes
returns-then-not-is_constant-clause-comes c t =
    variable_made t c.args.id _ c.variable_alone.result (quotient_variables (term_at t c.args.id) (form_meant t c.args.left.now) (form_meant t c.args.right.now) (meant_other t c.args.right.now c.if-not-is_constant.ensures))
    c.variable_alone.ensures.comes c.variable_alone.ensures.stop

pub returns-then-is_zero-clause-comes : goal.returns-then-is_zero-clause-comes
returns-then-is_zero-clause-comes c t =
    variable_made t c.args.id _ c.variable_alone-then-is_zero.result (quotient_zero (term_at t c.args.id) (form_meant t c.args.left.now) (form_meant t c.args.right.now) (ap is_zero (sym c.constant-divisor.ensures) ∙ sym c.if-is_zero.ensures))
    c.variable_alone-then-is_zero.ensures.comes c.variable_alone-then-is_zero.ensures.stop

pub returns-clause-comes : goal.returns-clause-comes
returns-clause-comes c t =
    let f = form_meant t c.args.left.now in
    let g = form_meant t c.args.right.now in
    makes_as _ _ c.made_by.result (form_meant t)
    (ap (shared_out f) c.constant-divisor.ensures ∙ sym (quotient_number (term_at t c.args.id) f g (meant_empty t c.args.right.now c.if-not-is_constant.ensures) (ap is_zero (sym c.constant-divisor.ensures) ∙ sym c.if-is_zero.ensures)))
    (c.made_by.ensures.comes t)

pub made_by-requires : goal.made_by-requires
made_by-requires c = not_zero (fraction c.constant-divisor.result) (sym c.if-is_zero.ensures)
