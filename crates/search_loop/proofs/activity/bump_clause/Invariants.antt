-- The same variables wait.
use Rattle.std.proofs.Common.{◌≡◌}
use Rattle.search_loop.proofs.activity.bump_clause.Given as goal

abbrev pub invariant-loop-id : goal.invariant-loop-id
invariant-loop-id l = l.order ≡ l.fn.order
