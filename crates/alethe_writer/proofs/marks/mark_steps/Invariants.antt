-- The numbers up to here are marked.
use Rattle.std.proofs.Common.{take}
use Rattle.proof_log.specs.Logs.{numbers_of}
use Rattle.alethe_writer.specs.Marks.{MarksNumbers}
use Rattle.alethe_writer.proofs.marks.mark_steps.Given as goal

abbrev pub invariant-ids : goal.invariant-ids
invariant-ids l = record { so_far : MarksNumbers l.fn.marks (numbers_of (take l.id-index l.ids)) l.marks }
