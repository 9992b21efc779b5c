-- That the list has one more number.
use Rattle.std.proofs.Common.{refl}
use Rattle.clause_literals.proofs.Noting.{notes_one}
use Rattle.clause_literals.proofs.occurrences.Occurrences.note.Goals as goal

pub returns : goal.returns
returns c = notes_one c.args.self.now c.place.new.self _ c.args.l c.in_ok-index.index c.args.number c.in_ok-index.ensures refl c.index_mut.result.now c.push.new.self c.index_mut.ensures.value c.in_ok-push.ensures.items refl
