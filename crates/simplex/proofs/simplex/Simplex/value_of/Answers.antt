-- The term has a form, of which the value is, or an operation of both leaves the bound.
use Rattle.spec_causes.specs.Shared.{OverflowsTerm}
use Rattle.ratio128.specs.Meant.{overflow}
use Rattle.term_core.specs.Tables.{term_at}
use Rattle.spec_text.proofs.AnswerLaws.{told}
use Rattle.simplex_atoms.specs.Stops.{of_fault}
use Rattle.simplex_atoms.specs.Watching.{OnAtomOverflow}
use Rattle.simplex_atoms.specs.declared.stop.AtomStop.TheVariants as stops
use Rattle.simplex_atoms.proofs.Numbered.{are_in, variables_as}
use Rattle.simplex.specs.Coming.{term_tableau_of}
use Rattle.simplex.proofs.SharedTerms.{form_overflowing, sum_overflowing, constant_overflows, value_is}
use Rattle.simplex.proofs.simplex.Simplex.value_of.Goals as goal

pub sum_of-requires-clause-there : goal.sum_of-requires-clause-there
sum_of-requires-clause-there c =
    are_in c.args.table.now c.deref.result.now c.in_ok-form.form
    (variables_as c.deref.result.now c.in_ok-variables.variables.items c.in_ok-form.form c.deref.ensures.value c.in_ok-variables.ensures) c.in_ok-form.ensures.there

pub returns-in_err-form-clause-wide : goal.returns-in_err-form-clause-wide
returns-in_err-form-clause-wide c =
    let t = c.args.table.now in
    let s = term_tableau_of t c.args.self.now in
    let u = term_at t c.args.id in
    told (OnAtomOverflow (OverflowsTerm s u)) c.from_residual.result (of_fault c.in_err-form.field-0.0) c.from_residual.ensures.1
    (form_overflowing t s u c.in_err-form.field-0.0 c.in_err-form.ensures.exact)

pub returns-in_err-sum-clause-wide : goal.returns-in_err-sum-clause-wide
returns-in_err-sum-clause-wide c =
    let t = c.args.table.now in
    let s = term_tableau_of t c.args.self.now in
    let u = term_at t c.args.id in
    told (OnAtomOverflow (OverflowsTerm s u)) c.from_residual-in_err-sum.result (stops.Wide c.in_err-sum.field-0.0) c.from_residual-in_err-sum.ensures.1
    (sum_overflowing t s u c.in_ok-form.form c.deref.result.now (overflow c.in_err-sum.field-0.0) c.in_ok-form.ensures.exact (variables_as c.deref.result.now c.in_ok-variables.variables.items c.in_ok-form.form c.deref.ensures.value c.in_ok-variables.ensures) c.in_err-sum.ensures.wide)

pub returns-in_err-value-clause-wide : goal.returns-in_err-value-clause-wide
returns-in_err-value-clause-wide c =
    let t = c.args.table.now in
    let s = term_tableau_of t c.args.self.now in
    let u = term_at t c.args.id in
    told (OnAtomOverflow (OverflowsTerm s u)) c.from_residual-in_err-value.result (stops.Wide c.in_err-value.field-0.0) c.from_residual-in_err-value.ensures.1
    (constant_overflows t s u c.in_ok-form.form c.deref.result.now c.in_ok-sum.sum c.number.result c.constant.result (overflow c.in_err-value.field-0.0) c.in_ok-form.ensures.exact
    (variables_as c.deref.result.now c.in_ok-variables.variables.items c.in_ok-form.form c.deref.ensures.value c.in_ok-variables.ensures) c.in_ok-sum.ensures.sum c.constant.ensures c.number.ensures c.in_err-value.ensures.wide)

pub returns-clause-value : goal.returns-clause-value
returns-clause-value c =
    let t = c.args.table.now in
    let s = term_tableau_of t c.args.self.now in
    value_is t s (term_at t c.args.id) c.in_ok-form.form c.deref.result.now c.in_ok-sum.sum c.number.result c.in_ok-value.value c.constant.result c.in_ok-form.ensures.exact (variables_as c.deref.result.now c.in_ok-variables.variables.items c.in_ok-form.form c.deref.ensures.value c.in_ok-variables.ensures)
    c.in_ok-sum.ensures.sum c.constant.ensures c.number.ensures c.in_ok-value.ensures.exact
