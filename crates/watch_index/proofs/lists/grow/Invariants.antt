-- Empty lists came after those that were there.
use Rattle.std.proofs.Common.{◌+◌, ◌-◌, length}
use Rattle.clause_literals.specs.Literals.{lists}
use Rattle.watch_index.specs.Indexes.{HasGrown}
use Rattle.watch_index.proofs.lists.grow.Given as goal

abbrev pub invariant-lists : goal.invariant-lists
invariant-lists l = HasGrown (lists l.fn.all.items) (lists l.all.items)

abbrev pub decreases-lists : goal.decreases-lists
decreases-lists l = l.place + 1 - length l.all.items
