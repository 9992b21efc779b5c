-- The constant is changed, and then the coefficients.
use Rattle.std.proofs.Common.{◌≡◌, Ok, nat_eq, sym, subst}
use Rattle.std.specs.HashMap.{get}
use Rattle.spec_arithmetic.specs.Forms.{changed, each_number}
use Rattle.ratio128.specs.Meant.{fraction, overflow}
use Rattle.linear_form.specs.Meant.{FormView, form_meant, AreVariablesOf}
use Rattle.linear_form.specs.Entries.{live, variables_meant, HasVariables}
use Rattle.linear_form.specs.Making.{change_meant, FailsBy, ReturnsMade}
use Rattle.linear_form.proofs.Indexes.{kept_empty}
use Rattle.linear_form.proofs.Joining.{makes_err}
use Rattle.linear_form.proofs.FormSteps.{view_of, changed_err, changed_fails, changed_makes}
use Rattle.linear_form.proofs.form.made_by.Goals as goal

pub change_all-requires-clause-index : goal.change_all-requires-clause-index
change_all-requires-clause-index c = kept_empty (get nat_eq c.new-places.result) c.new-entries.result.items c.new-entries.ensures.items

pub returns-in_err-constant-clause-comes : goal.returns-in_err-constant-clause-comes
returns-in_err-constant-clause-comes c t =
    let change = change_meant c.args.change in
    let f = view_of (fraction c.f.inside.constant) c.f.inside.entries.items in
    subst (λ (v : FormView). ReturnsMade (changed change (form_meant t v)) c.from_residual.result (form_meant t)) c.f.view_is
    (makes_err _ c.from_residual.result _ _ (changed_err change (form_meant t f) (overflow c.in_err-constant.field-0.0) (sym c.in_err-constant.ensures)) c.from_residual.ensures.1)

pub returns-in_err-change_all-clause-comes : goal.returns-in_err-change_all-clause-comes
returns-in_err-change_all-clause-comes c t =
    let change = change_meant c.args.change in
    let f = view_of (fraction c.f.inside.constant) c.f.inside.entries.items in
    let s = c.in_err-change_all.field-0.0 in
    subst (λ (v : FormView). ReturnsMade (changed change (form_meant t v)) c.from_residual-in_err-change_all.result (form_meant t)) c.f.view_is
    (makes_err _ c.from_residual-in_err-change_all.result s _ (changed_fails change (form_meant t f) (fraction c.in_ok-constant.constant) s (sym c.in_ok-constant.ensures)
    (subst (λ l. FailsBy (each_number change (variables_meant t (live l))) s) c.as_slice.ensures.value (c.in_err-change_all.ensures.comes t))) c.from_residual-in_err-change_all.ensures.1)

pub returns-clause-comes : goal.returns-clause-comes
returns-clause-comes c t =
    let change = change_meant c.args.change in
    let f = view_of (fraction c.f.inside.constant) c.f.inside.entries.items in
    let new = c.change_all.new.entries.items in
    subst (λ (v : FormView). changed change (form_meant t v) ≡ Ok (form_meant t (view_of (fraction c.in_ok-constant.constant) new))) c.f.view_is
    (changed_makes change (form_meant t f) (fraction c.in_ok-constant.constant) (variables_meant t (live new)) (sym c.in_ok-constant.ensures)
    (subst (λ l. each_number change (variables_meant t (live l)) ≡ Ok (variables_meant t (live new))) c.as_slice.ensures.value (c.in_ok-change_all.ensures.comes t)))

pub returns-clause-there : goal.returns-clause-there
returns-clause-there c t =
    subst (λ (v : FormView). AreVariablesOf t v → HasVariables t (live c.change_all.new.entries.items)) c.f.view_is
    (λ has. c.in_ok-change_all.ensures.there t (subst (λ l. HasVariables t (live l)) (sym c.as_slice.ensures.value) has))
