-- The numbers up to here are marked.
use Rattle.std.proofs.Common.{take}
use Rattle.alethe_writer.specs.Marks.{MarksNumbers, plain_numbers}
use Rattle.alethe_writer.proofs.marks.mark_terms.Given as goal

abbrev pub invariant-ids : goal.invariant-ids
invariant-ids l = record { so_far : MarksNumbers l.fn.marks (plain_numbers (take l.id-index l.ids)) l.marks }
