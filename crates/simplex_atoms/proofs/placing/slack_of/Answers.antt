-- The entries are those of the form's variables.
use Rattle.std.proofs.Common.{refl, sym, subst, List}
use Rattle.linear_form.specs.Meant.{AreVariablesOf}
use Rattle.tableau.specs.declared.entries.Entry.{Entry}
use Rattle.simplex_atoms.specs.Atoms.{ground_of}
use Rattle.simplex_atoms.specs.Watching.{EntriesAreNumbered}
use Rattle.simplex_atoms.specs.Grown.{any_table, VariablesAreIn}
use Rattle.simplex_atoms.proofs.Growing.{grown_same, grown_for, grown_on}
use Rattle.simplex_atoms.proofs.Numbered.{are_in, numbered_over, variables_as}
use Rattle.simplex_atoms.proofs.Making.{result_formed, result_overflows}
use Rattle.simplex_atoms.proofs.Coming.{slack_comes}
use Rattle.simplex_atoms.proofs.placing.slack_of.Goals as goal

pub slack_by-requires-clause-over : goal.slack_by-requires-clause-over
slack_by-requires-clause-over c =
    numbered_over c.entries_of.new.meanings.owners.list c.entries_of.new.assignment.tableau.variables c.deref-2.result.now c.deref.result.now c.entries_of.ensures.grown.fit.counted
    (subst (λ (es : List Entry). EntriesAreNumbered c.entries_of.new.meanings.owners.list es c.deref.result.now) (sym c.deref-2.ensures.value) c.in_ok-entries.ensures.ok)

pub returns-clause-is : goal.returns-clause-is
returns-clause-is c =
    result_formed c.entries_of.new.meanings.owners.list c.entries_of.new.assignment (ground_of c.slack_by.new.meanings.owners.list c.slack_by.new.assignment) c.args.form.now c.deref.result.now c.deref-2.result.now
    c.args.kind c.constant.result c.slack_by.result
    (variables_as c.deref.result.now c.in_ok-variables.variables.items c.args.form.now c.deref.ensures.value c.in_ok-variables.ensures) c.constant.ensures
    (subst (λ (es : List Entry). EntriesAreNumbered c.entries_of.new.meanings.owners.list es c.deref.result.now) (sym c.deref-2.ensures.value) c.in_ok-entries.ensures.ok)
    c.slack_by.ensures.grown.grows c.slack_by.ensures.made c.slack_by.ensures.covers c.slack_by.ensures.on

pub returns-clause-wide : goal.returns-clause-wide
returns-clause-wide c =
    result_overflows c.entries_of.new.meanings.owners.list c.entries_of.new.assignment (ground_of c.slack_by.new.meanings.owners.list c.slack_by.new.assignment) c.args.form.now c.deref.result.now c.deref-2.result.now
    c.constant.result c.slack_by.result
    (variables_as c.deref.result.now c.in_ok-variables.variables.items c.args.form.now c.deref.ensures.value c.in_ok-variables.ensures) c.constant.ensures
    (subst (λ (es : List Entry). EntriesAreNumbered c.entries_of.new.meanings.owners.list es c.deref.result.now) (sym c.deref-2.ensures.value) c.in_ok-entries.ensures.ok)
    c.slack_by.ensures.grown.grows c.slack_by.ensures.wide

pub returns-clause-came : goal.returns-clause-came
returns-clause-came c =
    slack_comes c.args.form.now c.args.meanings.now.owners.list c.entries_of.new.meanings.owners.list c.slack_by.new.meanings.owners.list c.args.assignment.now c.entries_of.new.assignment c.slack_by.new.assignment
    c.deref.result.now c.deref-2.result.now
    (variables_as c.deref.result.now c.in_ok-variables.variables.items c.args.form.now c.deref.ensures.value c.in_ok-variables.ensures)
    (subst (λ (es : List Entry). EntriesAreNumbered c.entries_of.new.meanings.owners.list es c.deref.result.now) (sym c.deref-2.ensures.value) c.in_ok-entries.ensures.ok)
    c.in_ok-entries.ensures.came c.slack_by.result c.slack_by.ensures.came

pub returns-in_err-entries-clause-grown : goal.returns-in_err-entries-clause-grown
returns-in_err-entries-clause-grown c =
    grown_for (VariablesAreIn c.deref.result.now) (λ t. AreVariablesOf t c.args.form.now) c.args.meanings.now c.args.assignment.now c.entries_of.new.meanings c.entries_of.new.assignment
    (λ t all. are_in t c.deref.result.now c.args.form.now (variables_as c.deref.result.now c.in_ok-variables.variables.items c.args.form.now c.deref.ensures.value c.in_ok-variables.ensures) all) c.entries_of.ensures.grown

pub returns-clause-grown : goal.returns-clause-grown
returns-clause-grown c =
    grown_on (VariablesAreIn c.deref.result.now) any_table (λ t. AreVariablesOf t c.args.form.now)
    c.args.meanings.now c.args.assignment.now c.entries_of.new.meanings c.entries_of.new.assignment c.slack_by.new.meanings c.slack_by.new.assignment
    (λ t all. (are_in t c.deref.result.now c.args.form.now (variables_as c.deref.result.now c.in_ok-variables.variables.items c.args.form.now c.deref.ensures.value c.in_ok-variables.ensures) all, tt)) c.entries_of.ensures.grown c.slack_by.ensures.grown

pub returns-in_err-variables-clause-grown : goal.returns-in_err-variables-clause-grown
returns-in_err-variables-clause-grown c = grown_same c.args.meanings.now c.args.assignment.now _ _ c.requires.fit.counted (λ t. AreVariablesOf t c.args.form.now) c.requires.fit.sums refl refl
