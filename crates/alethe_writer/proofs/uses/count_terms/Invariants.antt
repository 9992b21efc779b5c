-- The numbers up to here are counted.
use Rattle.std.proofs.Common.{take}
use Rattle.alethe_writer.specs.Uses.{CountsUses}
use Rattle.alethe_writer.proofs.uses.count_terms.Given as goal

abbrev pub invariant-ids : goal.invariant-ids
invariant-ids l = record { so_far : CountsUses l.fn.uses (take l.id-index l.ids) l.uses }
