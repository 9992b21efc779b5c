-- No number is 0, and so all stay.
use Rattle.ratio128.specs.Meant.{fraction}
use Rattle.linear_form.specs.Meant.{form_meant}
use Rattle.linear_form.proofs.FormSteps.{no_table, changed_same, makes_as, made_alone, stops_alone}
use Rattle.linear_form.proofs.form.copy.Goals as goal

pub returns-clause-same : goal.returns-clause-same
returns-clause-same c = made_alone (λ t. form_meant t c.args.f.now) c.made_by.result
    (λ t. makes_as _ _ c.made_by.result (form_meant t) (changed_same t (fraction c.f.inside.constant) c.f.inside.entries.items c.args.f.now c.f.view_is) (c.made_by.ensures.comes t))

pub returns-clause-stop : goal.returns-clause-stop
returns-clause-stop c = stops_alone (form_meant no_table c.args.f.now) no_table c.made_by.result
    (makes_as _ _ c.made_by.result (form_meant no_table) (changed_same no_table (fraction c.f.inside.constant) c.f.inside.entries.items c.args.f.now c.f.view_is) (c.made_by.ensures.comes no_table))
