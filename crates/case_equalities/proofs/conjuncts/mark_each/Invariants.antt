-- The numbers up to here are marked.
use Rattle.std.proofs.Common.{◌≡◌, length, take}
use Rattle.case_equalities.specs.Finding.{MarksOnly}
use Rattle.case_equalities.proofs.conjuncts.mark_each.Given as goal

abbrev pub invariant-ids : goal.invariant-ids
invariant-ids l = record { many : length l.marks ≡ length l.fn.marks; only : MarksOnly l.fn.marks (take l.id-index l.ids) l.marks }
