-- No number becomes 0.
use Rattle.spec_arithmetic.specs.Forms.{opposite_form}
use Rattle.ratio128.specs.Meant.{fraction}
use Rattle.linear_form.specs.Meant.{form_meant}
use Rattle.linear_form.proofs.FormSteps.{no_table, changed_opposite, makes_as, made_alone, stops_alone}
use Rattle.linear_form.proofs.form.negative.Goals as goal

pub returns-clause-comes : goal.returns-clause-comes
returns-clause-comes c = made_alone (λ t. opposite_form (form_meant t c.args.f.now)) c.made_by.result
    (λ t. makes_as _ _ c.made_by.result (form_meant t) (changed_opposite t (fraction c.f.inside.constant) c.f.inside.entries.items c.args.f.now c.f.view_is) (c.made_by.ensures.comes t))

pub returns-clause-stop : goal.returns-clause-stop
returns-clause-stop c = stops_alone (opposite_form (form_meant no_table c.args.f.now)) no_table c.made_by.result
    (makes_as _ _ c.made_by.result (form_meant no_table) (changed_opposite no_table (fraction c.f.inside.constant) c.f.inside.entries.items c.args.f.now c.f.view_is) (c.made_by.ensures.comes no_table))
