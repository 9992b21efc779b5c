-- One form after the other is added.
use Rattle.std.proofs.Common.{◌∙◌, arith}
use Rattle.spec_arithmetic.specs.Forms.{adding, combined, all_added}
use Rattle.linear_form.specs.Meant.{form_meant}
use Rattle.linear_form.specs.Making.{forms_meant}
use Rattle.linear_form.proofs.Joining.{fails_on, makes_err}
use Rattle.linear_form.proofs.HeadSteps.{added_more, added_err, added_end, form_there}
use Rattle.linear_form.proofs.heads.add_all.Goals as goal

pub forms-preserved : goal.forms-preserved
forms-preserved c =
    let f = c.index-others-at.result in
    let os = c.args.others.now in
    record {
      comes = λ t d n m. c.forms.invariant.comes t d n m
          ∙ added_more t (form_meant t c.forms.sum) (form_meant t c.combine.new.e) os c.forms.at f c.forms-test.true c.index-others-at.is
          (c.in_ok-combine.ensures.comes t d (c.forms.invariant.there t n m) (form_there t os c.forms.at f c.forms-test.true c.index-others-at.is m));
      there = λ t n m. c.in_ok-combine.ensures.there t (c.forms.invariant.there t n m) (form_there t os c.forms.at f c.forms-test.true c.index-others-at.is m);
    }

pub returns-in_err-combine-clause-comes : goal.returns-in_err-combine-clause-comes
returns-in_err-combine-clause-comes c t d n m =
    let f = c.index-others-at.result in
    let os = c.args.others.now in
    makes_err _ c.from_residual.result _ _
    (fails_on (all_added (form_meant t c.args.sum) (forms_meant t os)) (combined adding (form_meant t c.forms.sum) (form_meant t f)) c.in_err-combine.field-0.0
    (λ w e. c.forms.invariant.comes t d n m ∙ added_err t (form_meant t c.forms.sum) os c.forms.at f w c.forms-test.true c.index-others-at.is e)
    (c.in_err-combine.ensures.comes t d (c.forms.invariant.there t n m) (form_there t os c.forms.at f c.forms-test.true c.index-others-at.is m)))
    c.from_residual.ensures.1

pub returns-clause-comes : goal.returns-clause-comes
returns-clause-comes c t d n m = c.forms.invariant.comes t d n m ∙ added_end t (form_meant t c.forms.sum) c.args.others.now c.forms.at (omega arith)
