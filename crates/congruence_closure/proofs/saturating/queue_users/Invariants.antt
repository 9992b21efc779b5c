use Rattle.std.proofs.Common.{take}
use Rattle.congruence_closure.proofs.Queues.{HaveQueued}
use Rattle.congruence_closure.proofs.saturating.queue_users.Given as goal

abbrev pub invariant-members : goal.invariant-members
invariant-members l = HaveQueued l.listing l.fn.pending.items (take l.m-index l.m-items) l.pending.items
