-- The place is on the variable of the one entry, or on a row.
use Rattle.std.proofs.Common.{inl, refl}
use Rattle.simplex_atoms.specs.Grown.{any_table}
use Rattle.simplex_atoms.proofs.Growing.{grown_same}
use Rattle.simplex_atoms.proofs.Making.{variable_overflows, variable_covers, longer_entries}
use Rattle.simplex_atoms.proofs.placing.slack_by.Goals as goal

pub returns-in_err-slack-in-Some-clause-wide : goal.returns-in_err-slack-in-Some-clause-wide
returns-in_err-slack-in-Some-clause-wide c =
    variable_overflows c.args.assignment.now c.args.constant c.args.entries.now c.in-Some.entry c.in_err-slack-in-Some.field-0.0 c.from_residual.result
    c.in-Some.ensures.0 c.in_err-slack-in-Some.ensures.wide c.from_residual.ensures.1

pub returns-in_ok-slack-in-Some-clause-covers : goal.returns-in_ok-slack-in-Some-clause-covers
returns-in_ok-slack-in-Some-clause-covers c =
    variable_covers c.args.meanings.now.owners.list c.args.assignment.now c.args.entries.now c.in-Some.entry c.in_ok-slack-in-Some.slack c.requires.fit.counted c.requires.over
    c.in-Some.ensures.0 c.in_ok-slack-in-Some.ensures.variable.0 c.in_ok-slack-in-Some.ensures.variable.1

pub returns-in_ok-slack-in-Some-clause-on : goal.returns-in_ok-slack-in-Some-clause-on
returns-in_ok-slack-in-Some-clause-on c = inl (c.in-Some.entry, c.in-Some.ensures.0, c.in_ok-slack-in-Some.ensures.variable.0)

pub on_row-requires-clause-longer : goal.on_row-requires-clause-longer
on_row-requires-clause-longer c = longer_entries c.args.entries.now c.in-None.ensures

pub returns-in_err-slack-in-Some-clause-grown : goal.returns-in_err-slack-in-Some-clause-grown
returns-in_err-slack-in-Some-clause-grown c = grown_same c.args.meanings.now c.args.assignment.now _ _ c.requires.fit.counted any_table c.requires.fit.sums refl refl

pub returns-in_ok-slack-in-Some-clause-grown : goal.returns-in_ok-slack-in-Some-clause-grown
returns-in_ok-slack-in-Some-clause-grown c = grown_same c.args.meanings.now c.args.assignment.now _ _ c.requires.fit.counted any_table c.requires.fit.sums refl refl
