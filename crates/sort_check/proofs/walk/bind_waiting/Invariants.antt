use Rattle.std.proofs.Common.{length}
use Rattle.sort_check.proofs.Binding.{IsBinding}
use Rattle.sort_check.proofs.walk.bind_waiting.Given as goal

abbrev pub invariant-names : goal.invariant-names
invariant-names l = IsBinding l.from l.fn.waiting l.fn.bound l.waiting l.bound

abbrev pub decreases-names : goal.decreases-names
decreases-names l = length l.waiting.names
