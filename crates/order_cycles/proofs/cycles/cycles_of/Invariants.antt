-- What is there are cycles.
use Rattle.std.proofs.Common.{All}
use Rattle.order_cycles.specs.Cycles.{IsCycle}
use Rattle.order_cycles.proofs.cycles.cycles_of.Given as goal

abbrev pub invariant-asked : goal.invariant-asked
invariant-asked l = All (λ c. IsCycle l.orders c.items) l.cycles.items
