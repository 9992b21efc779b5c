-- What was found, the last first.
use Rattle.std.proofs.Common.{reverse}
use Rattle.linear_form.proofs.FoundTerms.{IsFound}
use Rattle.linear_form.proofs.needed.order_of.Given as goal

abbrev pub invariant-terms : goal.invariant-terms
invariant-terms l = record { found : IsFound l.table l.fn.id.0 l.waiting.keys (reverse l.order.items) l.top }

abbrev pub decreases-terms : goal.decreases-terms
decreases-terms l = l.top
