use Rattle.std.proofs.Common.{◌-◌, ◌≤◌, suc, max, length}
use Rattle.congruence_closure.specs.Tables.{AreGrown}
use Rattle.congruence_closure.proofs.users.grow.Given as goal

abbrev pub invariant-entries : goal.invariant-entries
invariant-entries l = AreGrown l.fn.numbers.items l.numbers.items × (length l.numbers.items ≤ max (suc l.t.0) (length l.fn.numbers.items))

abbrev pub decreases-entries : goal.decreases-entries
decreases-entries l = suc l.t.0 - length l.numbers.items
