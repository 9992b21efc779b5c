use Rattle.std.proofs.Common.{◌<◌, ℕ, length}
use Rattle.std.specs.Prelude.{Contains}
use Rattle.congruence_closure.proofs.users.drop_from.Given as goal

abbrev pub invariant-places : goal.invariant-places
invariant-places l = (i : ℕ) → i < l.place → Contains l.fn.list.items i → Contains l.list.items i

abbrev pub decreases-places : goal.decreases-places
decreases-places l = length l.list.items
