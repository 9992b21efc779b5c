-- One form is divided by another, and of another number of forms the term is a variable.
use Rattle.std.proofs.Common.{◌∷◌, sym, subst}
use Rattle.spec_sorts.specs.Terms.{Divide}
use Rattle.spec_arithmetic.specs.Forms.{form_by}
use Rattle.term_core.specs.Tables.{term_at}
use Rattle.linear_form.specs.Meant.{form_meant}
use Rattle.linear_form.specs.Making.{ReturnsMade}
use Rattle.linear_form.proofs.HeadSteps.{variable_made, divide_other, one_form}
use Rattle.linear_form.proofs.heads.by_divide.Goals as goal

pub returns-then-others-ne1-clause-comes : goal.returns-then-others-ne1-clause-comes
returns-then-others-ne1-clause-comes c t d n m =
    variable_made t c.args.id _ c.variable_alone.result (divide_other t (term_at t c.args.id) (form_meant t c.args.first) c.args.others.now c.if-others-ne1.true) c.variable_alone.ensures.comes c.variable_alone.ensures.stop

pub returns-clause-comes : goal.returns-clause-comes
returns-clause-comes c t d n m =
    subst (λ gs. ReturnsMade (form_by (term_at t c.args.id) Divide (form_meant t c.args.first ∷ gs)) c.divide.result (form_meant t)) (sym (one_form t c.args.others.now c.index-others-0.result c.if-others-ne1.false c.index-others-0.is)) (c.divide.ensures.comes t)
