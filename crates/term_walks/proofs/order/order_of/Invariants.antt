-- What was found, the last first.
use Rattle.std.proofs.Common.{reverse}
use Rattle.term_walks.proofs.Found.{IsFound}
use Rattle.term_walks.proofs.order.order_of.Given as goal

abbrev pub invariant-terms : goal.invariant-terms
invariant-terms l = record { found : IsFound l.table l.fn.root.0 l.waiting.keys (reverse l.order.items) l.top }

abbrev pub decreases-terms : goal.decreases-terms
decreases-terms l = l.top
