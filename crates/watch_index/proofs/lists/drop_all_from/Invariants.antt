-- The first lists are cut.
use Rattle.std.proofs.Common.{◌-◌, length}
use Rattle.clause_literals.specs.Literals.{lists}
use Rattle.watch_index.specs.Indexes.{numbers_below}
use Rattle.watch_index.proofs.Changes.{AreChanged}
use Rattle.watch_index.proofs.lists.drop_all_from.Given as goal

abbrev pub invariant-lists : goal.invariant-lists
invariant-lists l = AreChanged (numbers_below l.number) l.place (lists l.fn.all.items) (lists l.all.items)

abbrev pub decreases-lists : goal.decreases-lists
decreases-lists l = length l.all.items - l.place
