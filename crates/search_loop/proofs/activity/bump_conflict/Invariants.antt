-- The same variables wait.
use Rattle.std.proofs.Common.{◌≡◌}
use Rattle.search_loop.proofs.activity.bump_conflict.Given as goal

abbrev pub invariant-loop-premise : goal.invariant-loop-premise
invariant-loop-premise l = l.order ≡ l.fn.order
