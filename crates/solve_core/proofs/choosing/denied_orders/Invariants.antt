-- No more literals than atoms of linear arithmetic among the terms up to here.
use Rattle.std.proofs.Common.{◌≤◌, length, take}
use Rattle.search_loop.specs.Paying.{counted_among}
use Rattle.solve_core.proofs.choosing.denied_orders.Given as goal

abbrev pub invariant-terms : goal.invariant-terms
invariant-terms l = length l.lits.items ≤ counted_among l.table (take l.id-index l.terms)
