-- The numbers up to here are marked.
use Rattle.std.proofs.Common.{take}
use Rattle.term_clauses.specs.Marks.{MarksTerms}
use Rattle.term_clauses.proofs.marks.mark_each.Given as goal

abbrev pub invariant-ids : goal.invariant-ids
invariant-ids l = record { so_far : MarksTerms l.fn.marks (take l.id-index l.ids) l.marks }
