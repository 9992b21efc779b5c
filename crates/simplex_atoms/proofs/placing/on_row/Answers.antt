-- The place is on the variable that is known, or on the new one.
use Rattle.std.proofs.Common.{refl}
use Rattle.simplex_atoms.specs.Grown.{any_table, ground_on}
use Rattle.simplex_atoms.specs.Made.{OverflowsEntries}
use Rattle.simplex_atoms.proofs.Growing.{grown_same}
use Rattle.simplex_atoms.proofs.Making.{stop_wide}
use Rattle.simplex_atoms.proofs.Multiples.{known_covers, new_covers}
use Rattle.simplex_atoms.proofs.placing.on_row.Goals as goal

pub returns-in_err-key-clause-grown : goal.returns-in_err-key-clause-grown
returns-in_err-key-clause-grown c = grown_same c.args.meanings.now c.args.assignment.now _ _ c.requires.fit.counted any_table c.requires.fit.sums refl refl

pub returns-in-Some-clause-grown : goal.returns-in-Some-clause-grown
returns-in-Some-clause-grown c = grown_same c.args.meanings.now c.args.assignment.now _ _ c.requires.fit.counted any_table c.requires.fit.sums refl refl

pub returns-in-Some-clause-covers : goal.returns-in-Some-clause-covers
returns-in-Some-clause-covers c =
    known_covers (ground_on c.args.meanings.now c.args.assignment.now) c.args.meanings.now.sums.list c.args.entries.now c.in_ok-key.key c.in-Some.known c.on_multiple.result c.requires.fit.sums
    c.in_ok-key.ensures c.in-Some.ensures c.on_multiple.ensures.variable c.on_multiple.ensures.factor

pub returns-in_err-variable-clause-wide : goal.returns-in_err-variable-clause-wide
returns-in_err-variable-clause-wide c =
    stop_wide (OverflowsEntries c.add_row.new.assignment c.args.constant c.args.entries.now) c.in_err-variable.field-0.0 c.from_residual-in_err-variable.result
    (c.in_err-variable.ensures.wide c.args.constant) c.from_residual-in_err-variable.ensures.1

pub returns-clause-covers : goal.returns-clause-covers
returns-clause-covers c =
    new_covers (ground_on c.add_row.new.meanings c.add_row.new.assignment) c.args.entries.now c.in_ok-variable.variable c.on_multiple-2.result c.in_ok-variable.ensures.is
    c.on_multiple-2.ensures.variable c.on_multiple-2.ensures.factor
