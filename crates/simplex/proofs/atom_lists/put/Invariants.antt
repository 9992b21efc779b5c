-- Numbers go.
use Rattle.std.proofs.Common.{length}
use Rattle.simplex.proofs.atom_lists.put.Given as goal

abbrev pub decreases-gone : goal.decreases-gone
decreases-gone l = length l.list.items
