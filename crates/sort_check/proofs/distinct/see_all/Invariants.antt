-- The numbers up to here came in.
use Rattle.std.proofs.Common.{take}
use Rattle.term_walks.specs.Counting.{AddsOnce}
use Rattle.sort_check.proofs.distinct.see_all.Given as goal

abbrev pub invariant-ids : goal.invariant-ids
invariant-ids l = record { so_far : AddsOnce l.fn.seen.keys (take l.id-index l.ids) l.seen.keys }
