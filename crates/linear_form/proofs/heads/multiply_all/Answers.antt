-- One form after the other is multiplied.
use Rattle.std.proofs.Common.{◌∙◌, arith}
use Rattle.spec_arithmetic.specs.Forms.{all_multiplied}
use Rattle.term_core.specs.Tables.{term_at}
use Rattle.linear_form.specs.Meant.{form_meant}
use Rattle.linear_form.specs.Making.{forms_meant, product_step}
use Rattle.linear_form.proofs.Joining.{fails_on, makes_err}
use Rattle.linear_form.proofs.HeadSteps.{multiplied_some, multiplied_none, multiplied_err, multiplied_end, form_there, variable_made}
use Rattle.linear_form.proofs.heads.multiply_all.Goals as goal

pub forms-preserved : goal.forms-preserved
forms-preserved c =
    let g = c.index-others-at.result in
    let os = c.args.others.now in
    record {
      comes = λ t. c.forms.invariant.comes t
          ∙ multiplied_some t (term_at t c.args.id) (form_meant t c.forms.product) (form_meant t c.in-Some.next) os c.forms.at g c.forms-test.true c.index-others-at.is (rw c.in-Some.is at (c.in_ok-next.ensures.comes t));
      there = λ t n m. (rw c.in-Some.is at c.in_ok-next.ensures.there) t (c.forms.invariant.there t n m) (form_there t os c.forms.at g c.forms-test.true c.index-others-at.is m);
    }

pub returns-in-None-clause-comes : goal.returns-in-None-clause-comes
returns-in-None-clause-comes c t =
    variable_made t c.args.id _ c.variable_alone.result
    (c.forms.invariant.comes t ∙ multiplied_none t (term_at t c.args.id) (form_meant t c.forms.product) c.args.others.now c.forms.at c.index-others-at.result c.forms-test.true c.index-others-at.is (rw c.in-None.is at (c.in_ok-next.ensures.comes t)))
    c.variable_alone.ensures.comes c.variable_alone.ensures.stop

pub returns-in_err-next-clause-comes : goal.returns-in_err-next-clause-comes
returns-in_err-next-clause-comes c t =
    let g = c.index-others-at.result in
    let s = c.in_err-next.field-0.0 in
    makes_err _ c.from_residual.result s _
    (fails_on (all_multiplied (term_at t c.args.id) (form_meant t c.args.first) (forms_meant t c.args.others.now)) (product_step (form_meant t c.forms.product) (form_meant t g)) s
    (λ w e. c.forms.invariant.comes t ∙ multiplied_err t (term_at t c.args.id) (form_meant t c.forms.product) c.args.others.now c.forms.at g w c.forms-test.true c.index-others-at.is e)
    (c.in_err-next.ensures.comes t))
    c.from_residual.ensures.1

pub returns-clause-comes : goal.returns-clause-comes
returns-clause-comes c t = c.forms.invariant.comes t ∙ multiplied_end t (term_at t c.args.id) (form_meant t c.forms.product) c.args.others.now c.forms.at (omega arith)
