-- One form is negated, of two the second is subtracted, and of more the term is a variable.
use Rattle.std.proofs.Common.{◌≡◌, ◌≢◌, [], ◌∷◌, Ok, rules, ap, sym, subst, arith}
use Rattle.spec_sorts.specs.Terms.{Minus}
use Rattle.spec_arithmetic.specs.Forms.{form_by, opposite_form}
use Rattle.term_core.specs.Tables.{term_at}
use Rattle.linear_form.specs.Meant.{form_meant}
use Rattle.linear_form.specs.Making.{FailsBy, forms_meant}
use Rattle.linear_form.proofs.Joining.{makes_err}
use Rattle.linear_form.proofs.HeadSteps.{alone_made, variable_made, no_forms, minus_other, one_form, form_there}
use Rattle.linear_form.proofs.heads.by_minus.Goals as goal

pub returns-then-is_empty-clause-comes : goal.returns-then-is_empty-clause-comes
returns-then-is_empty-clause-comes c t d n m =
    let none : c.args.others.now ≡ [] = no_forms c.args.others.now c.if-is_empty.ensures in
    alone_made t _ (λ t. opposite_form (form_meant t c.args.first)) c.negative.result (ap (λ fs. form_by (term_at t c.args.id) Minus (form_meant t c.args.first ∷ forms_meant t fs)) none) c.negative.ensures.comes c.negative.ensures.stop

pub returns-then-others-ne1-clause-comes : goal.returns-then-others-ne1-clause-comes
returns-then-others-ne1-clause-comes c t d n m =
    let some : c.args.others.now ≢ [] = search rules in
    variable_made t c.args.id _ c.variable_alone.result (minus_other t (term_at t c.args.id) (form_meant t c.args.first) c.args.others.now some c.if-others-ne1.true)
    c.variable_alone.ensures.comes c.variable_alone.ensures.stop

pub returns-in_err-combine-clause-comes : goal.returns-in_err-combine-clause-comes
returns-in_err-combine-clause-comes c t d n m =
    let os = c.args.others.now in
    let g = c.index-others-0.result in
    let s = c.in_err-combine.field-0.0 in
    makes_err _ c.from_residual.result s _
    (subst (λ gs. FailsBy (form_by (term_at t c.args.id) Minus (form_meant t c.args.first ∷ gs)) s) (sym (one_form t os g c.if-others-ne1.false c.index-others-0.is))
    (c.in_err-combine.ensures.comes t d n (form_there t os 0 g (omega (arith, c.if-others-ne1.false)) c.index-others-0.is m)))
    c.from_residual.ensures.1

pub returns-clause-comes : goal.returns-clause-comes
returns-clause-comes c t d n m =
    let os = c.args.others.now in
    let g = c.index-others-0.result in
    subst (λ gs. form_by (term_at t c.args.id) Minus (form_meant t c.args.first ∷ gs) ≡ Ok (form_meant t c.combine.new.e)) (sym (one_form t os g c.if-others-ne1.false c.index-others-0.is))
    (c.in_ok-combine.ensures.comes t d n (form_there t os 0 g (omega (arith, c.if-others-ne1.false)) c.index-others-0.is m))
