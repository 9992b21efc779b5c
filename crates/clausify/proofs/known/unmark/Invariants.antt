-- The numbers up to here are not marked any more.
use Rattle.std.proofs.Common.{take}
use Rattle.clausify.specs.Unmarking.{Unmarks}
use Rattle.clausify.proofs.known.unmark.Given as goal

abbrev pub invariant-ids : goal.invariant-ids
invariant-ids l = record { so_far : Unmarks l.fn.marks (take l.id-index l.ids) l.marks }
