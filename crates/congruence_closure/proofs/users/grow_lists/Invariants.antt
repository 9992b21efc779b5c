use Rattle.std.proofs.Common.{◌-◌, suc, length}
use Rattle.congruence_closure.specs.Tables.{lists, HaveKept}
use Rattle.congruence_closure.proofs.users.grow_lists.Given as goal

abbrev pub invariant-lists : goal.invariant-lists
invariant-lists l = HaveKept (lists l.fn.all.items) (lists l.all.items)

abbrev pub decreases-lists : goal.decreases-lists
decreases-lists l = suc l.t.0 - length l.all.items
