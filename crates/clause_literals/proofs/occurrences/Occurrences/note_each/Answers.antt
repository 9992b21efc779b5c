-- That each literal is noted.
use Rattle.std.proofs.Common.{false}
use Rattle.std.proofs.lemmas.List.{take_more, take_all}
use Rattle.clause_literals.proofs.Noting.{notes_none, notes_more}
use Rattle.clause_literals.proofs.occurrences.Occurrences.note_each.Goals as goal

pub loop-l-init : goal.loop-l-init
loop-l-init c = notes_none _ _ c.requires

pub note-requires : goal.note-requires
note-requires c = c.loop-l.invariant.whole

pub loop-l-preserved : goal.loop-l-preserved
loop-l-preserved c = rw (take_more c.args.clause.now c.loop-l.l-index (record { term = record { 0 = 0 }; positive = false }) c.loop-l-test.true) (notes_more _ _ _ _ _ _ c.loop-l.invariant c.in_ok-note.ensures)

pub returns : goal.returns
returns c = rw (take_all _ _ c.loop-l-test.false) at c.loop-l.invariant
