-- What follows from each premise taken once follows from all, and the other way round.
use Rattle.alethe_check.proofs.Within.{resolvent_judged}
use Rattle.alethe_check.proofs.rules.is_resolved.Goals as goal

pub returns : goal.returns
returns c = resolvent_judged _ _ _ c.resolution.result c.in_ok-clauses.ensures.same (rw c.deref.ensures.value at c.resolution.ensures)
