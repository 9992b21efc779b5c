-- The numbers that were added are in the order.
use Rattle.std.proofs.Common.{take}
use Rattle.term_walks.specs.Orders.{numbers_of, AddsNumbers}
use Rattle.term_walks.proofs.order.add_all.Given as goal

abbrev pub invariant-ids : goal.invariant-ids
invariant-ids l = record { so_far : AddsNumbers l.fn.waiting.keys (take l.at (numbers_of l.ids)) l.waiting.keys }
