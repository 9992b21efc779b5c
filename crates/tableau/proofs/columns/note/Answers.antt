use Rattle.std.proofs.Common.{[], ◌∙◌}
use Rattle.std.proofs.lemmas.List.{get_or_default}
use Rattle.tableau.proofs.Noting.{note_grown, note_noted}
use Rattle.tableau.proofs.columns.note.Goals as goal

pub returns-clause-grown : goal.returns-clause-grown
returns-clause-grown c = note_grown c.insert.result c.args.columns.now.items c.args.variable c.args.number c.insert.new.self c.index_mut.result.now c.requires
    (c.index_mut.ensures.value ∙ get_or_default c.args.columns.now.items c.args.variable c.index_mut.result.now [] c.requires) c.insert.ensures.ok c.insert.ensures.err

pub returns-clause-noted : goal.returns-clause-noted
returns-clause-noted c = note_noted c.insert.result c.args.columns.now.items c.args.variable c.args.number c.insert.new.self c.index_mut.result.now c.requires
    (c.index_mut.ensures.value ∙ get_or_default c.args.columns.now.items c.args.variable c.index_mut.result.now [] c.requires) c.insert.ensures.ok
