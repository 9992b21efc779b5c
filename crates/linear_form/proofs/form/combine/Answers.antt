-- The constants are joined, and then the variables.
use Rattle.std.proofs.Common.{◌≡◌, Err, sym, subst}
use Rattle.std.proofs.lemmas.Result.{on_ok_weaker}
use Rattle.spec_arithmetic.specs.Forms.{all_joined, combined}
use Rattle.ratio128.specs.Meant.{fraction, overflow}
use Rattle.linear_form.specs.Meant.{FormView, form_meant, AreVariablesOf}
use Rattle.linear_form.specs.Entries.{live, variables_meant, HasVariables}
use Rattle.linear_form.specs.Making.{way_meant, Comes}
use Rattle.linear_form.proofs.Joining.{comes_err}
use Rattle.linear_form.proofs.FormSteps.{view_of, combined_err, combined_comes}
use Rattle.linear_form.proofs.form.combine.Goals as goal

pub returns-in_err-e-inside-clause-comes : goal.returns-in_err-e-inside-clause-comes
returns-in_err-e-inside-clause-comes c t d has others =
    let way = way_meant c.args.way in
    let e = view_of (fraction c.e.inside.constant) c.e.inside.entries.items in
    let f = view_of (fraction c.f.inside.constant) c.f.inside.entries.items in
    comes_err _ c.from_residual.result _ _
    (subst (λ (v : FormView). combined way (form_meant t v) (form_meant t c.args.f.now) ≡ Err (overflow c.in_err-e-inside.field-0.0)) c.e.view_is
    (subst (λ (v : FormView). combined way (form_meant t e) (form_meant t v) ≡ Err (overflow c.in_err-e-inside.field-0.0)) c.f.view_is
    (combined_err way (form_meant t e) (form_meant t f) (overflow c.in_err-e-inside.field-0.0) (sym c.in_err-e-inside.ensures))))
    c.from_residual.ensures.1

pub returns-clause-comes : goal.returns-clause-comes
returns-clause-comes c t d =
    let way = way_meant c.args.way in
    let new = view_of (fraction c.in_ok-e-inside.field-0) c.join_all.new.entries.items in
    let e = view_of (fraction c.e.inside.constant) c.e.inside.entries.items in
    let f = view_of (fraction c.f.inside.constant) c.f.inside.entries.items in
    subst (λ (v : FormView). AreVariablesOf t v → AreVariablesOf t c.args.f.now → Comes (combined way (form_meant t v) (form_meant t c.args.f.now)) c.join_all.result (form_meant t new)) c.e.view_is
    (subst (λ (v : FormView). AreVariablesOf t e → AreVariablesOf t v → Comes (combined way (form_meant t e) (form_meant t v)) c.join_all.result (form_meant t new)) c.f.view_is
    (λ has others. combined_comes way (form_meant t e) (form_meant t f) (fraction c.in_ok-e-inside.field-0) c.join_all.result (variables_meant t (live c.join_all.new.entries.items)) (sym c.in_ok-e-inside.ensures)
    (subst (λ l. HasVariables t (live l) → Comes (all_joined way (variables_meant t (live c.e.inside.entries.items)) (variables_meant t (live l))) c.join_all.result (variables_meant t (live c.join_all.new.entries.items))) c.as_slice.ensures.value (c.join_all.ensures.comes t d has) others)))

pub returns-clause-there : goal.returns-clause-there
returns-clause-there c = on_ok_weaker c.join_all.result
    (λ h t. subst (λ (v : FormView). AreVariablesOf t v → AreVariablesOf t c.args.f.now → HasVariables t (live c.join_all.new.entries.items)) c.e.view_is
    (subst (λ (v : FormView). HasVariables t (live c.e.inside.entries.items) → AreVariablesOf t v → HasVariables t (live c.join_all.new.entries.items)) c.f.view_is
    (λ has others. h t has (subst (λ l. HasVariables t (live l)) (sym c.as_slice.ensures.value) others)))) c.join_all.ensures.there
